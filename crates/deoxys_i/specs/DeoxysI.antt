-- Deoxys-I: document 01, "Modes", which gives the rules of the Deoxys paper (v1.41).
-- Assumes nothing.
use Rattle.std.specs.Prelude.{List, [], ◌∷◌, ◌++◌, ℕ, zero, suc, ◌+◌, ◌*◌, ◌/◌, ◌%◌, eqb, length, take, drop}
use Rattle.octets.specs.Octets.{pick, ◌⊕◌, zero_block, blocks_of, block_at, padded}
use Rattle.tweakey.specs.declared.Subkeys.{Subkeys}
use Rattle.tweaks.specs.Tweaks.{nonce_tweak}
use Rattle.modes.specs.Rows.{Row, enciphered, deciphered, Outcome, partial_row, data_rows, absorbed}

-- n full blocks from number i on, kind 0, by a call; and the enciphered zero block, kind 4, for a partial one
unfoldable pub message_rows : (List ℕ → List ℕ → Row) → Subkeys → List ℕ → ℕ → ℕ → List ℕ → List Row
message_rows call k nonce zero i s = partial_row (λ p. enciphered k (nonce_tweak 4 nonce i) zero_block) s
message_rows call k nonce (suc n) i s = call (nonce_tweak 0 nonce i) (take 16 s) ∷ message_rows call k nonce n (i + 1) (drop 16 s)

-- the text that the rows make: what each of n rows gave, and the partial block XORed with what its row gave
unfoldable pub text_of : ℕ → List Row → List ℕ → List ℕ
text_of n [] s = []
text_of zero (r ∷ rows) s = s ⊕ r.to
text_of (suc n) (r ∷ rows) s = r.to ++ text_of n rows (drop 16 s)

-- a sum, and the padded partial block where there is one
abbrev pub pad_in : List ℕ → List ℕ → List ℕ
pad_in sum [] = sum
pad_in sum (x ∷ s) = sum ⊕ padded (x ∷ s)

-- XOR of n full blocks from number i on and the padded partial one
unfoldable pub checksum_of : List ℕ → List ℕ → ℕ → ℕ → List ℕ
checksum_of s sum zero i = pad_in sum (drop (16 * i) s)
checksum_of s sum (suc n) i = checksum_of s (sum ⊕ block_at s i) n (i + 1)

-- what a sum becomes by a text
abbrev pub summed : List ℕ → List ℕ → List ℕ
summed sum s = checksum_of s sum (length s / 16) 0

abbrev pub checksum : List ℕ → List ℕ
checksum s = summed zero_block s

-- of so many bytes with this checksum: kind 1 without a partial block, kind 5 with one; the number counts the partial block
abbrev pub sum_row : Subkeys → List ℕ → ℕ → List ℕ → Row
sum_row k nonce bytes sum = enciphered k (nonce_tweak (pick (eqb (bytes % 16) 0) 1 5) nonce (blocks_of bytes)) sum

abbrev pub tag_row : Subkeys → List ℕ → List ℕ → Row
tag_row k nonce message = sum_row k nonce (length message) (checksum message)

-- a text whose first block has this number
abbrev pub rows_from : ℕ → (List ℕ → List ℕ → Row) → Subkeys → List ℕ → List ℕ → List Row
rows_from first call k nonce s = message_rows call k nonce (length s / 16) first s

abbrev pub text_from : ℕ → (List ℕ → List ℕ → Row) → Subkeys → List ℕ → List ℕ → List ℕ
text_from first call k nonce s = text_of (length s / 16) (rows_from first call k nonce s) s

abbrev pub crypt_rows : (List ℕ → List ℕ → Row) → Subkeys → List ℕ → List ℕ → List Row
crypt_rows call k nonce s = rows_from 0 call k nonce s

abbrev pub crypted : (List ℕ → List ℕ → Row) → Subkeys → List ℕ → List ℕ → List ℕ
crypted call k nonce s = text_from 0 call k nonce s

-- a text worked on by a call, and the tag of the message
abbrev pub outcome : (List ℕ → List ℕ → Row) → Subkeys → List ℕ → List ℕ → List ℕ → List ℕ → Outcome
outcome call k nonce ad s message = record {
  text = crypted call k nonce s;
  tag = absorbed zero_block (data_rows k ad) ⊕ (tag_row k nonce message).to;
  rows = data_rows k ad ++ (crypt_rows call k nonce s ++ (tag_row k nonce message ∷ []));
}

-- full blocks are enciphered on sealing
unfoldable pub seal_i : Subkeys → List ℕ → List ℕ → List ℕ → Outcome
seal_i k nonce ad message = outcome (enciphered k) k nonce ad message message

-- and deciphered on opening, which takes the checksum of what it recovers
unfoldable pub open_i : Subkeys → List ℕ → List ℕ → List ℕ → Outcome
open_i k nonce ad cipher = outcome (deciphered k) k nonce ad cipher (crypted (deciphered k) k nonce cipher)
