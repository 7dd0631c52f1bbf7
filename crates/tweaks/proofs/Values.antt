-- Mistakes that look right (document 01) told from the rule by values.
-- Assumes nothing.
use mathlib.Core.Path.{◌≡◌, refl}
use mathlib.Core.List.{List, [], ◌∷◌, ◌++◌}
use Prim.Native.Nat.{ℕ}
use lib.ListN.{replicate}
use Rattle.octets.specs.Octets.{◌⊕◌, big_endian}
use Rattle.tweaks.specs.Tweaks.{numbered, keystream_tweak}

-- a tag of zeros but for its last byte
abbrev ending : ℕ → List ℕ
ending x = replicate 15 0 ++ (x ∷ [])

-- keystream block 1 of a tag that ends in 01, and in FF: XORed, where the number added would end in 02, and carry into the byte before
pub number_xored :
    keystream_tweak (ending 0x01) 1 ∷ keystream_tweak (ending 0xff) 1 ∷ []
    ≡ (0x80 ∷ replicate 14 0 ++ (0x00 ∷ [])) ∷ (0x80 ∷ replicate 14 0 ++ (0xfe ∷ [])) ∷ []
unfolding keystream_tweak numbered big_endian ◌⊕◌
number_xored = refl

-- the number's highest byte comes first
pub number_big_endian : numbered 0x20 0x0102 ≡ 0x20 ∷ replicate 13 0 ++ (0x01 ∷ 0x02 ∷ [])
unfolding numbered big_endian
number_big_endian = refl
