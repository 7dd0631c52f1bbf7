-- Bytes and blocks, as document 01 and the papers that it names use the words: a byte is a number below 256, a block is sixteen bytes.
-- Assumes nothing.
use Rattle.std.specs.Prelude.{◌≡◌, Bool, true, false, List, [], ◌∷◌, ◌++◌, ℕ, zero, suc, ◌+◌, ◌-◌, ◌*◌, ◌/◌, ◌%◌, ◌^◌, ◌<◌, eqb, length, get_or, take, drop, replicate}
use Rattle.std.specs.Int.Bits.{bit_xor}

-- every element is a byte (past the end of a list stands 0)
pub record Bytes (s : List ℕ) : Type 0 where
  pub at : (i : ℕ) → get_or s i 0 < 256

pub record Block (s : List ℕ) : Type 0 where
  pub size : length s ≡ 16
  pub bytes : Bytes s

abbrev pub pick : {A : Type 0} → Bool → A → A → A
pick true a b = a
pick false a b = b

-- bit i of x, bit 0 the lowest
abbrev pub bit : ℕ → ℕ → ℕ
bit x i = x / 2 ^ i % 2

infixl 65 ◌⊕◌
-- XOR, byte by byte, as far as the shorter goes
unfoldable pub ◌⊕◌ : List ℕ → List ℕ → List ℕ
[] ⊕ t = []
(x ∷ s) ⊕ [] = []
(x ∷ s) ⊕ (y ∷ t) = bit_xor x y ∷ (s ⊕ t)

-- f i, f (i + 1), .., n of them
abbrev pub table_from : (ℕ → ℕ) → ℕ → ℕ → List ℕ
table_from f i zero = []
table_from f i (suc n) = f i ∷ table_from f (suc i) n

-- the list of n elements with f i at place i
unfoldable pub table : (ℕ → ℕ) → ℕ → List ℕ
table f n = table_from f 0 n

-- a block, each byte replaced by what f gives for it
unfoldable pub each_byte : (ℕ → ℕ) → List ℕ → List ℕ
each_byte f s = table (λ i. f (get_or s i 0)) 16

unfoldable pub zero_block : List ℕ
zero_block = replicate 16 0

-- the number of blocks of so many bytes, a partial one counted
abbrev pub blocks_of : ℕ → ℕ
blocks_of bytes = (bytes + 15) / 16

-- block i of a text, counted from zero
abbrev pub block_at : List ℕ → ℕ → List ℕ
block_at s i = take 16 (drop (16 * i) s)

-- 0x80, then zeros to 16 bytes
unfoldable pub padded : List ℕ → List ℕ
padded s = s ++ (0x80 ∷ replicate (15 - length s) 0)

-- n in so many bytes, the highest first
unfoldable pub big_endian : ℕ → ℕ → List ℕ
big_endian zero n = []
big_endian (suc k) n = n / 256 ^ k % 256 ∷ big_endian k n

-- whether two texts are the same, to the last byte
unfoldable pub same : List ℕ → List ℕ → Bool
same [] [] = true
same [] (y ∷ t) = false
same (x ∷ s) [] = false
same (x ∷ s) (y ∷ t) = pick (eqb x y) (same s t) false
