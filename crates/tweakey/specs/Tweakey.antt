-- The tweakey schedule of Deoxys-BC: document 01, "Tweakey", which gives the rules of the Deoxys paper (v1.41).
-- Assumes nothing.
use Rattle.std.specs.Prelude.{List, [], ◌∷◌, ◌++◌, ℕ, zero, suc, ◌+◌, ◌-◌, ◌*◌, ◌/◌, ◌%◌, eqb, length, get_or, take, drop, replicate}
use Rattle.std.specs.Int.Bits.{bit_xor}
use Rattle.octets.specs.Octets.{pick, bit, ◌⊕◌, table, each_byte, block_at}
use Rattle.field.specs.Field.{double}
use Rattle.tweakey.specs.declared.Subkeys.{Subkeys}

-- H: new byte i is old byte H[i]
unfoldable pub places : List ℕ
places = 1 ∷ 6 ∷ 11 ∷ 12 ∷ 5 ∷ 10 ∷ 15 ∷ 0 ∷ 9 ∷ 14 ∷ 3 ∷ 4 ∷ 13 ∷ 2 ∷ 7 ∷ 8 ∷ []

unfoldable pub h : List ℕ → List ℕ
h s = table (λ i. get_or s (get_or places i 0) 0) 16

-- LFSR2: shift left one, new bit 0 is bit 7 XOR bit 5
unfoldable pub lfsr2 : ℕ → ℕ
lfsr2 x = x % 128 * 2 + bit_xor (bit x 7) (bit x 5)

-- LFSR3: shift right one, new bit 7 is bit 0 XOR bit 6
unfoldable pub lfsr3 : ℕ → ℕ
lfsr3 x = x / 2 + 128 * bit_xor (bit x 0) (bit x 6)

-- f, n times
abbrev pub repeated : (List ℕ → List ℕ) → ℕ → List ℕ → List ℕ
repeated f zero s = s
repeated f (suc n) s = f (repeated f n s)

-- TK2 and TK3 after i steps, each h and then the LFSR; the tweak has no LFSR
unfoldable pub tk2 : ℕ → List ℕ → List ℕ
tk2 i s = repeated (λ t. each_byte lfsr2 (h t)) i s

unfoldable pub tk3 : ℕ → List ℕ → List ℕ
tk3 i s = repeated (λ t. each_byte lfsr3 (h t)) i s

unfoldable pub tweak_after : ℕ → List ℕ → List ℕ
tweak_after i s = repeated h i s

-- round constant 0 is 0x2F, each other the one before, doubled in the AES field
unfoldable pub round_constant : ℕ → ℕ
round_constant zero = 0x2f
round_constant (suc i) = double (round_constant i)

-- 1, 2, 4, 8, four times the constant, eight zeros
unfoldable pub constant_block : ℕ → List ℕ
constant_block i = 1 ∷ 2 ∷ 4 ∷ 8 ∷ replicate 4 (round_constant i) ++ replicate 8 0

-- a 16-byte key is TK2; of a 32-byte key TK3 is the first half and TK2 the last
unfoldable pub key_part : List ℕ → ℕ → List ℕ
key_part key i =
    pick (eqb (length key) 16) (tk2 i key ⊕ constant_block i) (tk3 i (take 16 key) ⊕ tk2 i (drop 16 key) ⊕ constant_block i)

abbrev pub rounds_of : List ℕ → ℕ
rounds_of key = pick (eqb (length key) 16) 14 16

-- f 0, f 1, .. f (n - 1), end to end
abbrev pub joined : (ℕ → List ℕ) → ℕ → List ℕ
joined f zero = []
joined f (suc n) = joined f n ++ f n

-- so many blocks end to end, and zeros to the 272 bytes of an expanded key
unfoldable pub flat : (ℕ → List ℕ) → ℕ → List ℕ
flat f n = joined f n ++ replicate (272 - 16 * n) 0

-- the expanded key: the key parts 0 to the number of rounds, 240 or 272 bytes, and the number of rounds
unfoldable pub expanded : List ℕ → Subkeys
expanded key = record { bytes = flat (key_part key) (rounds_of key + 1); rounds = rounds_of key }

-- round key i: key part i XOR the tweak after i uses of h
unfoldable pub round_key : Subkeys → List ℕ → ℕ → List ℕ
round_key k tweak i = block_at k.bytes i ⊕ tweak_after i tweak
