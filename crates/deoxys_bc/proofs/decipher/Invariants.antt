-- `deoxys_bc::decipher` meets its contract: what the equivalent inverse cipher has still to do, from where the loop stands, is
-- what it had at first.
-- Assumes nothing.
use mathlib.Core.Path.{◌≡◌}
use Rattle.deoxys_bc.proofs.Rounds.{unran}
use Rattle.deoxys_bc.proofs.decipher.Given as goal

abbrev pub invariant-loop-i : goal.invariant-loop-i
invariant-loop-i l = unran l.keys l.state l.i ≡ unran l.keys l.initial.state l.initial.i
