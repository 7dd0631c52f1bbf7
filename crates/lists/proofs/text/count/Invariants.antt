-- `lists::text::count`: so far as often as the byte stands in what was seen.
-- Assumes nothing.
use Rattle.std.proofs.Common.{◌≡◌, take}
use Rattle.lists.specs.Text.{count_of}
use Rattle.lists.proofs.text.count.Given as goal

abbrev pub invariant-loop-b : goal.invariant-loop-b
invariant-loop-b l = l.n ≡ count_of l.byte (take l.b-index l.text)
