-- How the modes' routines speak of the definition, which does not use this: an outcome as a routine answers it.
-- Assumes nothing.
use Rattle.std.specs.Prelude.{length}
use Rattle.modes.specs.Rows.{Outcome}
use Rattle.modes.specs.declared.Tagged.{Tagged}

-- the tag, and the number of rows
abbrev pub answered : Outcome → Tagged
answered o = record { tag = o.tag; count = record { rows = length o.rows } }
