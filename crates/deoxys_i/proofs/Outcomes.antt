-- What sealing and opening put together, as the definition's outcomes: the tag, and the count as the length of the list of rows.
-- Assumes nothing.
use mathlib.Core.Path.{◌≡◌}
use mathlib.Core.Bool.{Bool, true, false}
use mathlib.Core.List.{List, [], ◌∷◌, ◌++◌}
use Prim.Native.Nat.{ℕ, ◌+◌}
use native.Mathlib.Omega.{arith}
use lib.ListN.{length, length-append}
use Rattle.octets.specs.Octets.{◌⊕◌, zero_block}
use Rattle.tweakey.specs.declared.Subkeys.{Subkeys}
use Rattle.modes.specs.Rows.{Row, data_rows, absorbed}
use Rattle.modes.specs.Answers.{answered}
use Rattle.modes.proofs.Counts.{answer}
use Rattle.deoxys_i.specs.DeoxysI.{checksum, sum_row, crypt_rows, crypted, seal_i, open_i}
use Rattle.deoxys_i.specs.Direction.{direction}

joined : (a b c : List Row) → length a + length b + length c ≡ length (a ++ (b ++ c))
joined a b c = simp length-append (omega arith)

module _ (k : Subkeys) (nonce ad s : List ℕ) where
  -- for a number of bytes that is the message's
  abbrev tag_i : ℕ → List ℕ → List ℕ
  tag_i bytes message = absorbed zero_block (data_rows k ad) ⊕ (sum_row k nonce bytes (checksum message)).to

  abbrev rows_i : Bool → ℕ
  rows_i opening = length (data_rows k ad) + length (crypt_rows (direction opening k) k nonce s) + 1

  pub sealed_i : (bytes : ℕ) → bytes ≡ length s → answer (tag_i bytes s) (rows_i false) ≡ answered (seal_i k nonce ad s)
  unfolding seal_i
  sealed_i bytes e = rw (e, ← joined (data_rows k ad) (crypt_rows (direction false k) k nonce s) (_ ∷ []))

  pub opened_i : answer (tag_i (length (crypted (direction true k) k nonce s)) (crypted (direction true k) k nonce s)) (rows_i true) ≡ answered (open_i k nonce ad s)
  unfolding open_i
  opened_i = rw (← joined (data_rows k ad) (crypt_rows (direction true k) k nonce s) (_ ∷ []))
