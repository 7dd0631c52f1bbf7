-- Mistakes that look right (document 01), and the order of the numbers of an opening, told by values.
-- Assumes nothing.
use mathlib.Core.Path.{◌≡◌, refl}
use mathlib.Core.List.{[], ◌∷◌}
use Prim.Native.Nat.{ℕ}
use lib.ListN.{replicate}
use Rattle.octets.specs.Octets.{same, zero_block}
use Rattle.suites.specs.Suites.{refusal}
use Rattle.deoxys.specs.Entry.{judged, opening}

-- after a wrong tag every byte is zero, the partial block's too: 17 bytes of ciphertext, as many recovered, and a given tag that differs from
-- the computed one in the first bit
pub zeros_after_a_wrong_tag :
    (judged (replicate 17 1) (0x80 ∷ replicate 15 0) (record { text = replicate 17 2; tag = zero_block; rows = [] })).buffer ≡ replicate 17 0
unfolding same zero_block
zeros_after_a_wrong_tag = refl

-- a tag of no bytes is of the wrong length and is not the computed one: with a suite, a key or a nonce that does not fit the earlier number is
-- given, and else 6
abbrev number : ℕ → ℕ → ℕ → ℕ
number suite key nonce = (opening suite (replicate key 0) (replicate nonce 0) [] [] []).answer.number

pub tag_length_after_suite_key_and_nonce : number 5 0 0 ∷ number 1 15 8 ∷ number 1 16 7 ∷ number 1 16 8 ∷ [] ≡ 1 ∷ 2 ∷ 3 ∷ 6 ∷ []
unfolding opening refusal
tag_length_after_suite_key_and_nonce = refl
