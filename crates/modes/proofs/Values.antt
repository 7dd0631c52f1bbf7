-- A whole last block is no partial one (document 01, "Mistakes that look right"), by values: the tweaks of 16, 17 and 32 bytes of data. And a
-- row for the values of both modes.
-- Assumes nothing.
use mathlib.Core.Path.{◌≡◌, refl}
use mathlib.Core.List.{List, [], ◌∷◌, map}
use Prim.Native.Nat.{ℕ}
use lib.ListN.{replicate}
use Rattle.tweakey.specs.declared.Subkeys.{Subkeys}
use Rattle.tweaks.specs.Tweaks.{numbered}
use Rattle.modes.specs.Rows.{Row, text_rows, data_rows}

-- a row that gave sixteen times a byte
abbrev pub giving : ℕ → Row
giving x = record { tweak = []; from = []; to = replicate 16 x }

abbrev tweaks : Subkeys → ℕ → List (List ℕ)
tweaks k bytes = map (λ (r : Row). r.tweak) (data_rows k (replicate bytes 0))

pub whole_last_block : (k : Subkeys)
    → tweaks k 16 ∷ tweaks k 17 ∷ tweaks k 32 ∷ []
    ≡ (numbered 0x20 0 ∷ []) ∷ (numbered 0x20 0 ∷ numbered 0x60 1 ∷ []) ∷ (numbered 0x20 0 ∷ numbered 0x20 1 ∷ []) ∷ []
unfolding text_rows
whole_last_block k = refl
