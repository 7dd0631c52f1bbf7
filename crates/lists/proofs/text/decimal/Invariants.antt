-- `lists::text::decimal`: each turn takes a digit off what is left.
use Rattle.std.proofs.Common.{◌≡◌, drop}
use Rattle.lists.specs.Text.{number_from}
use Rattle.lists.proofs.text.decimal.Given as goal

abbrev pub invariant-loop-byte : goal.invariant-loop-byte
invariant-loop-byte l = number_from l.n (drop l.byte-index l.field) ≡ number_from 0 l.field
