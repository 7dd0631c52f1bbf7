-- How many rows a text has: its blocks, a partial one counted; and a number of rows as the modes' routines answer it.
-- Assumes nothing.
use mathlib.Core.Path.{◌≡◌, refl}
use mathlib.Core.List.{List, [], ◌∷◌}
use Prim.Native.Nat.{ℕ, zero, suc, ◌+◌, ◌-◌, ◌*◌, ◌/◌, ◌≤◌, ◌<◌}
use native.Mathlib.Omega.{arith}
use lib.ListN.{length, drop, length-drop}
use Rattle.deoxys_bc.specs.declared.Count.{Count}
use Rattle.tweakey.specs.declared.Subkeys.{Subkeys}
use Rattle.octets.specs.Octets.{padded}
use Rattle.tweaks.specs.Tweaks.{numbered}
use Rattle.modes.specs.Rows.{Row, enciphered, blocks, partial_row, text_rows, auth_rows}
use Rattle.modes.specs.declared.Tagged.{Tagged}

pub partial_length : (call : List ℕ → Row) (s : List ℕ) → length s < 16 → length (partial_row call s) ≡ (length s + 15) / 16
partial_length call [] h = refl
partial_length call (x ∷ s) h = let e : length (x ∷ s) < 16 = h in omega arith

text_length : (k : Subkeys) (full part : ℕ) (s : List ℕ) (n i : ℕ) → 16 * (n + i) ≤ length s → length s < 16 * (n + i) + 16
    → length (text_rows k full part s n i) + i ≡ (length s + 15) / 16
unfolding text_rows
text_length k full part s zero i h l =
    let d : length (drop (16 * i) s) ≡ length s - 16 * i = length-drop (16 * i) s in
    let p : length (text_rows k full part s 0 i) ≡ (length (drop (16 * i) s) + 15) / 16 =
    partial_length (λ p. enciphered k (numbered part i) (padded p)) (drop (16 * i) s) (omega arith) in
    omega arith
text_length k full part s (suc n) i h l =
    let p = text_length k full part s n (i + 1) (omega arith) (omega arith) in
    let q : length (text_rows k full part s (suc n) i) ≡ suc (length (text_rows k full part s n (i + 1))) = refl in
    omega arith

pub auth_count : (k : Subkeys) (full part : ℕ) (s : List ℕ) → length (auth_rows k full part s) ≡ blocks s
auth_count k full part s = let p = text_length k full part s (length s / 16) 0 (omega arith) (omega arith) in omega arith

pub counted : {m n : ℕ} → m ≡ n → ◌≡◌ {A = Count} (record { rows = m }) (record { rows = n })
counted e = rw e

-- with a tag
abbrev pub answer : List ℕ → ℕ → Tagged
answer tag rows = record { tag = tag; count = record { rows = rows } }
