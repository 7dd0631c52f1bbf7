-- What sealing and opening put together, as the definition's outcomes: the tag, and the count as the length of the list of rows.
-- Assumes nothing.
use mathlib.Core.Path.{◌≡◌}
use mathlib.Core.List.{List, [], ◌∷◌, ◌++◌}
use Prim.Native.Nat.{ℕ, ◌+◌}
use native.Mathlib.Omega.{arith}
use lib.ListN.{length, length-append}
use Rattle.octets.specs.Octets.{zero_block}
use Rattle.deoxys_bc.specs.Cipher.{encipher}
use Rattle.tweakey.specs.declared.Subkeys.{Subkeys}
use Rattle.modes.specs.Rows.{data_rows, absorbed}
use Rattle.modes.specs.Answers.{answered}
use Rattle.modes.proofs.Counts.{answer}
use Rattle.deoxys_ii.specs.DeoxysII as II

module _ (k : Subkeys) (nonce ad s : List ℕ) where
  abbrev tag_ii : List ℕ → List ℕ
  tag_ii message = encipher k (0x10 ∷ nonce) (absorbed (absorbed zero_block (data_rows k ad)) (II.message_rows k message))

  pub sealed_ii :
      answer (tag_ii s) (length (data_rows k ad) + length (II.message_rows k s) + 1 + length (II.keystream_rows k (tag_ii s) nonce s))
      ≡ answered (II.seal_ii k nonce ad s)
  unfolding II.seal_ii
  sealed_ii =
      let e : length (data_rows k ad) + length (II.message_rows k s) + 1 + length (II.keystream_rows k (tag_ii s) nonce s)
      ≡ length (data_rows k ad ++ (II.message_rows k s ++ (II.tag_row k nonce ad s ∷ II.keystream_rows k (tag_ii s) nonce s))) =
      simp length-append (omega arith) in
      rw e

  pub opened_ii : (tag : List ℕ)
      → answer (tag_ii (II.crypted k tag nonce s))
      (length (data_rows k ad) + length (II.keystream_rows k tag nonce s) + length (II.message_rows k (II.crypted k tag nonce s)) + 1)
      ≡ answered (II.open_ii k nonce ad s tag)
  unfolding II.open_ii
  opened_ii tag =
      let m = II.crypted k tag nonce s in
      let e : length (data_rows k ad) + length (II.keystream_rows k tag nonce s) + length (II.message_rows k m) + 1
      ≡ length (data_rows k ad ++ (II.keystream_rows k tag nonce s ++ (II.message_rows k m ++ (II.tag_row k nonce ad m ∷ [])))) =
      simp length-append (omega arith) in
      rw e
