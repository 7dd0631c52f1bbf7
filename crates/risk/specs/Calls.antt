-- The block cipher call of a row, by its label: document 01, "Modes" and "Rows".
-- Assumes nothing.
use Rattle.std.specs.Prelude.{◌≡◌, Bool, false, List, [], ◌∷◌, ℕ}
use Rattle.octets.specs.Octets.{pick}
use Rattle.tweakey.specs.declared.Subkeys.{Subkeys}
use Rattle.modes.specs.Rows.{Row}
use Rattle.deoxys_i.specs.Direction.{direction}
use Rattle.suites.specs.Suites.{is_deoxys_i}
use Rattle.risk.specs.declared.Kind.TheVariants.{Message}
use Rattle.risk.specs.declared.Label.{Label}

-- a full block of the message is deciphered on opening in Deoxys-I; nothing else is
abbrev pub deciphers : Bool → ℕ → Label → Bool
deciphers opening suite l = elim l.kind [ Message ↦ pick l.partial false (pick opening (is_deoxys_i suite) false) | _ ↦ false ]

-- as many rows as labels, and each row a call on the tweak of its label, deciphering where its label says so
unfoldable pub InStep : Subkeys → (Label → List ℕ) → (Label → Bool) → List Row → List Label → Type 0
InStep k tweak way [] [] = Unit {0}
InStep k tweak way [] (l ∷ labels) = ⊥
InStep k tweak way (r ∷ rows) [] = ⊥
InStep k tweak way (r ∷ rows) (l ∷ labels) = (r ≡ direction (way l) k (tweak l) r.from) × InStep k tweak way rows labels
