-- How many rows a message has: its blocks, a partial one counted.
-- Assumes nothing.
use mathlib.Core.Path.{◌≡◌, refl}
use mathlib.Core.List.{List}
use Prim.Native.Nat.{ℕ, zero, suc, ◌+◌, ◌-◌, ◌*◌, ◌/◌, ◌≤◌, ◌<◌}
use native.Mathlib.Omega.{arith}
use lib.ListN.{length, drop, length-drop}
use Rattle.tweakey.specs.declared.Subkeys.{Subkeys}
use Rattle.octets.specs.Octets.{zero_block}
use Rattle.tweaks.specs.Tweaks.{nonce_tweak}
use Rattle.modes.specs.Rows.{Row, blocks, enciphered}
use Rattle.modes.proofs.Counts.{partial_length}
use Rattle.deoxys_i.specs.DeoxysI.{message_rows, crypt_rows}

message_length : (call : List ℕ → List ℕ → Row) (k : Subkeys) (nonce : List ℕ) (n i : ℕ) (s : List ℕ) → 16 * n ≤ length s → length s < 16 * n + 16
    → length (message_rows call k nonce n i s) ≡ (length s + 15) / 16
unfolding message_rows
message_length call k nonce zero i s h l = partial_length (λ p. enciphered k (nonce_tweak 4 nonce i) zero_block) s (omega arith)
message_length call k nonce (suc n) i s h l =
    let d : length (drop 16 s) ≡ length s - 16 = length-drop 16 s in
    let p = message_length call k nonce n (i + 1) (drop 16 s) (omega arith) (omega arith) in
    let q : length (message_rows call k nonce (suc n) i s) ≡ suc (length (message_rows call k nonce n (i + 1) (drop 16 s))) = refl in
    omega arith

pub crypt_count : (call : List ℕ → List ℕ → Row) (k : Subkeys) (nonce s : List ℕ) → length (crypt_rows call k nonce s) ≡ blocks s
crypt_count call k nonce s = message_length call k nonce (length s / 16) 0 s (omega arith) (omega arith)
