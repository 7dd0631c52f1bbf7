-- `modes::authenticate` meets its contract: what is left to absorb from where the loop stands gives what there was at first.
-- Assumes nothing.
use Rattle.std.proofs.Common.{◌≡◌, ◌+◌, ◌-◌, length}
use Rattle.modes.specs.Rows.{text_rows}
use Rattle.modes.proofs.Authenticating.{done}
use Rattle.modes.proofs.authenticate.Given as goal

abbrev pub invariant-loop-i : goal.invariant-loop-i
invariant-loop-i l = record {
  left : done l.tally (text_rows l.k l.full l.partial l.text (length l.blocks - l.i) l.i) ≡ done l.fn.tally (text_rows l.k l.full l.partial l.text (length l.blocks) 0);
  counted : l.tally.count.rows ≡ l.fn.tally.count.rows + l.i;
}
