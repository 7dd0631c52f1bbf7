-- How many rows a keystream has: the blocks of the text, a partial one counted.
-- Assumes nothing.
use mathlib.Core.Path.{◌≡◌, refl, ap}
use mathlib.Core.List.{List}
use Prim.Native.Nat.{ℕ, zero, suc, ◌+◌}
use lib.ListN.{length}
use Rattle.tweakey.specs.declared.Subkeys.{Subkeys}
use Rattle.modes.specs.Rows.{blocks}
use Rattle.deoxys_ii.specs.DeoxysII.{keystream_from, keystream_rows}

keystream_length : (k : Subkeys) (tag nonce : List ℕ) (n j : ℕ) → length (keystream_from k tag nonce n j) ≡ n
unfolding keystream_from
keystream_length k tag nonce zero j = refl
keystream_length k tag nonce (suc n) j = ap suc (keystream_length k tag nonce n (j + 1))

pub keystream_count : (k : Subkeys) (tag nonce s : List ℕ) → length (keystream_rows k tag nonce s) ≡ blocks s
keystream_count k tag nonce s = keystream_length k tag nonce (blocks s) 0
