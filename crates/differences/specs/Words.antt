-- The word by which a report names what differs.
-- Assumes nothing.
use Rattle.std.specs.Prelude.{List, ℕ, codes}
use Rattle.differences.specs.declared.tally.What.{What}
use Rattle.differences.specs.declared.tally.What.TheVariants.{Number, Tag, Rows, Buffer, Inputs, Form}

abbrev pub what_word : What → List ℕ
what_word Number = codes "number"
what_word Tag = codes "tag"
what_word Rows = codes "rows"
what_word Buffer = codes "buffer"
what_word Inputs = codes "inputs"
what_word Form = codes "form"
