-- The words by which a table is printed.
-- Assumes nothing.
use Rattle.std.specs.Prelude.{List, ℕ, ◌++◌, codes}
use Rattle.std.specs.Fmt.{decimal}
use Rattle.octets.specs.Octets.{pick}
use Rattle.risk.specs.declared.Kind.{Kind}
use Rattle.risk.specs.declared.Kind.TheVariants.{Data, Message, Tag, Keystream}
use Rattle.risk.specs.declared.Label.{Label}
use Rattle.risk.specs.declared.Direction.{Direction}
use Rattle.risk.specs.declared.Direction.TheVariants.{Sealing, Opening}

abbrev pub kind_word : Kind → List ℕ
kind_word Data = codes "data"
kind_word Message = codes "message"
kind_word Tag = codes "tag"
kind_word Keystream = codes "keystream"

abbrev pub direction_word : Direction → List ℕ
direction_word Sealing = codes "sealing"
direction_word Opening = codes "opening"

-- a label as it stands on its line
abbrev pub label_text : Label → List ℕ
label_text l = kind_word l.kind ++ codes " " ++ decimal l.number ++ codes " " ++ pick l.partial (codes "partial") (codes "whole")
