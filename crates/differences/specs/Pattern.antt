-- The bytes of the pattern, and the checksum of a list. Assumes nothing.
use Rattle.std.specs.Prelude.{◌≡◌, List, [], ◌∷◌, ℕ, ◌+◌, ◌*◌, ◌/◌, ◌%◌, ◌≤◌, ◌<◌, length, get_or}
use Rattle.std.specs.Int.Bits.{bit_xor}

-- byte i of the pattern with this salt
unfoldable pub pattern_at : ℕ → ℕ → ℕ
pattern_at salt i = bit_xor (bit_xor (i % 256) (i / 256 % 256)) salt

-- the bytes of s from a place on are the pattern's
pub record Follows (salt from : ℕ) (s : List ℕ) : Type 0 where
  pub at : (i : ℕ) → from ≤ i → i < length s → get_or s i 0 ≡ pattern_at salt i

-- every byte is zero
pub record Zeros (s : List ℕ) : Type 0 where
  pub at : (i : ℕ) → i < length s → get_or s i 0 ≡ 0

-- the bytes as digits in base 31, the first the highest, and the number before them
unfoldable pub checksum_from : ℕ → List ℕ → ℕ
checksum_from sum [] = sum
checksum_from sum (b ∷ s) = checksum_from ((sum * 31 + b) % 65521) s
