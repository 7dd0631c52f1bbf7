-- The tweaks of both modes: document 01, "Modes", which gives the rules of the Deoxys paper (v1.41). A block number is a
-- big-endian 64-bit number.
-- Assumes nothing.
use Rattle.std.specs.Prelude.{List, [], ◌∷◌, ◌++◌, ℕ, ◌+◌, ◌*◌, ◌/◌, ◌%◌, drop, replicate}
use Rattle.octets.specs.Octets.{◌⊕◌, big_endian}

-- byte 0 is the kind, bytes 1 to 7 zero, bytes 8 to 15 the number
unfoldable pub numbered : ℕ → ℕ → List ℕ
numbered kind i = kind ∷ replicate 7 0 ++ big_endian 8 i

-- the half bytes of a text, the high one first; and back
abbrev pub halves : List ℕ → List ℕ
halves [] = []
halves (x ∷ s) = x / 16 ∷ x % 16 ∷ halves s

abbrev pub paired : List ℕ → List ℕ
paired [] = []
paired (x ∷ []) = []
paired (x ∷ y ∷ s) = (x * 16 + y) ∷ paired s

-- Deoxys-I: the high half of byte 0 is the kind, the nonce's 64 bits follow, and the last 60 bits are the number
unfoldable pub nonce_tweak : ℕ → List ℕ → ℕ → List ℕ
nonce_tweak kind nonce i = paired (kind ∷ halves nonce ++ drop 1 (halves (big_endian 8 i)))

-- a text with the top bit of its byte 0 set
abbrev pub top_bit_set : List ℕ → List ℕ
top_bit_set [] = []
top_bit_set (x ∷ s) = (0x80 + x % 0x80) ∷ s

-- Deoxys-II, keystream block j: the tag, its top bit set, and j XORed into bytes 8 to 15
unfoldable pub keystream_tweak : List ℕ → ℕ → List ℕ
keystream_tweak tag j = top_bit_set tag ⊕ (replicate 8 0 ++ big_endian 8 j)
