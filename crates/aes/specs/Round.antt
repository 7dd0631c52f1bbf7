-- FIPS 197, sections 5.1 and 5.3: the steps of a round on a block, the round and the inverses. Byte i is row i mod 4, column i div 4.
-- Assumes nothing.
use Rattle.std.specs.Prelude.{List, ℕ, ◌+◌, ◌-◌, ◌*◌, ◌/◌, ◌%◌, get_or}
use Rattle.std.specs.Int.Bits.{bit_xor}
use Rattle.octets.specs.Octets.{◌⊕◌, table, each_byte}
use Rattle.field.specs.Field.{times}
use Rattle.field.specs.Substitution.{sub, inv_sub}

-- 5.1.1 SubBytes and 5.3.2 InvSubBytes
unfoldable pub sub_bytes : List ℕ → List ℕ
sub_bytes s = each_byte sub s

unfoldable pub inv_sub_bytes : List ℕ → List ℕ
inv_sub_bytes s = each_byte inv_sub s

-- the byte of a row and a column
abbrev pub byte_at : List ℕ → ℕ → ℕ → ℕ
byte_at s row column = get_or s (row + 4 * column) 0

-- 5.1.2 ShiftRows: row r is turned left by r places; 5.3.1 InvShiftRows: right
unfoldable pub shift_rows : List ℕ → List ℕ
shift_rows s = table (λ i. byte_at s (i % 4) ((i / 4 + i % 4) % 4)) 16

unfoldable pub inv_shift_rows : List ℕ → List ℕ
inv_shift_rows s = table (λ i. byte_at s (i % 4) ((i / 4 + 4 - i % 4) % 4)) 16

-- 5.1.3: the first byte of the column a b c d, mixed, is 2•a ⊕ 3•b ⊕ c ⊕ d; 5.3.3: unmixed, 0E•a ⊕ 0B•b ⊕ 0D•c ⊕ 09•d
unfoldable pub mix_byte : ℕ → ℕ → ℕ → ℕ → ℕ
mix_byte a b c d = bit_xor (bit_xor (times 0x02 a) (times 0x03 b)) (bit_xor (times 0x01 c) (times 0x01 d))

unfoldable pub unmix_byte : ℕ → ℕ → ℕ → ℕ → ℕ
unmix_byte a b c d = bit_xor (bit_xor (times 0x0e a) (times 0x0b b)) (bit_xor (times 0x0d c) (times 0x09 d))

-- each column by a rule for its first byte, which the rows below take from the column turned so that they come first
abbrev pub by_columns : (ℕ → ℕ → ℕ → ℕ → ℕ) → List ℕ → List ℕ
by_columns f s =
    table
    (λ i. f (byte_at s (i % 4) (i / 4)) (byte_at s ((i + 1) % 4) (i / 4)) (byte_at s ((i + 2) % 4) (i / 4)) (byte_at s ((i + 3) % 4) (i / 4)))
    16

-- 5.1.3 MixColumns and 5.3.3 InvMixColumns
unfoldable pub mix_columns : List ℕ → List ℕ
mix_columns s = by_columns mix_byte s

unfoldable pub inv_mix_columns : List ℕ → List ℕ
inv_mix_columns s = by_columns unmix_byte s

-- a round: substitute, shift, mix, XOR the key
unfoldable pub round : List ℕ → List ℕ → List ℕ
round s key = mix_columns (shift_rows (sub_bytes s)) ⊕ key

-- its inverse
unfoldable pub inv_round : List ℕ → List ℕ → List ℕ
inv_round s key = inv_sub_bytes (inv_shift_rows (inv_mix_columns (s ⊕ key)))

-- 5.3.5, the round of the equivalent inverse cipher: the steps in the round's order, for a key that InvMixColumns was applied to
unfoldable pub equiv_inv_round : List ℕ → List ℕ → List ℕ
equiv_inv_round s key = inv_mix_columns (inv_shift_rows (inv_sub_bytes s)) ⊕ key
