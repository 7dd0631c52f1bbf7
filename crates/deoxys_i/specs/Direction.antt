-- How this crate's routines speak of the definition, which does not use this: a call by a flag.
-- Assumes nothing.
use Rattle.std.specs.Prelude.{Bool, true, false, List, ℕ}
use Rattle.tweakey.specs.declared.Subkeys.{Subkeys}
use Rattle.modes.specs.Rows.{Row, enciphered, deciphered}

-- a call on a full block: deciphering where it is an opening
abbrev pub direction : Bool → Subkeys → List ℕ → List ℕ → Row
direction true k = deciphered k
direction false k = enciphered k
