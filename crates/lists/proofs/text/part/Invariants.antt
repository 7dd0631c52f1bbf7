-- `lists::text::part` meets its contract: each turn takes a part off the front of what is left.
-- Assumes nothing.
use Rattle.std.proofs.Common.{◌≡◌, ◌-◌, ◌≤◌, length, drop}
use Rattle.lists.specs.Text.{part_of}
use Rattle.lists.proofs.text.part.Given as goal

abbrev pub invariant-loop : goal.invariant-loop
invariant-loop l = (l.from ≤ length l.text) × (part_of l.separator (l.k - l.counter) (drop l.from l.text) ≡ part_of l.separator l.k l.text)
