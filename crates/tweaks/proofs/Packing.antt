-- How the code lays out the tweaks, byte by byte, and that these are the definition's.
-- Assumes nothing.
use mathlib.Core.Path.{◌≡◌, refl, sym, ap, ◌∙◌}
use mathlib.Core.List.{List, [], ◌∷◌}
use Prim.Native.Nat.{ℕ, zero, suc, ◌+◌, ◌*◌, ◌/◌, ◌%◌, ◌<◌}
use native.Mathlib.Nat.{not-suc-le-zero, div-add-mod'}
use lib.Bits.{bit_or}
use lib.ListN.{length, get_or, set}
use Rattle.octets.specs.Octets.{table, big_endian}
use Rattle.octets.proofs.Tables.{agreed, spelt}
use Rattle.octets.proofs.Parts.{upto}
use Rattle.tweaks.specs.Tweaks.{numbered, nonce_tweak, top_bit_set}

-- Deoxys-I: what is left of the byte before byte j, the kind before byte 0
abbrev pub left_over : ℕ → List ℕ → ℕ → ℕ
left_over kind nonce zero = kind
left_over kind nonce (suc j) = get_or nonce j 0 % 16

abbrev pub packed : ℕ → List ℕ → ℕ → ℕ
packed kind nonce j = left_over kind nonce j * 16 + get_or nonce j 0 / 16

pub packed_is : (kind i : ℕ) (nonce : List ℕ) → length nonce ≡ 8
    → set (upto (table (packed kind nonce) 8) (numbered 0 i) 8) 8
    (left_over kind nonce 8 * 16 + get_or (upto (table (packed kind nonce) 8) (numbered 0 i) 8) 8 0 % 16)
    ≡ nonce_tweak kind nonce i
unfolding numbered big_endian nonce_tweak table
packed_is kind i nonce e =
    sym (ap (λ (n : List ℕ). nonce_tweak kind n i) (sym (spelt nonce e)) ∙ simp div-add-mod')

-- Deoxys-II: the top bit
top_bit : (x : ℕ) → x < 256 → bit_or x 128 ≡ 128 + x % 128
top_bit = agreed (λ x. bit_or x 128) (λ x. 128 + x % 128) 256 tt

pub top_set : (tag : List ℕ) → 0 < length tag → get_or tag 0 0 < 256 → set tag 0 (bit_or (get_or tag 0 0) 128) ≡ top_bit_set tag
top_set [] h b = absurd (not-suc-le-zero h)
top_set (x ∷ tag) h b = ap (λ (y : ℕ). y ∷ tag) (top_bit x b)

pub numbered-length : (kind i : ℕ) → length (numbered kind i) ≡ 16
unfolding numbered big_endian
numbered-length kind i = refl
