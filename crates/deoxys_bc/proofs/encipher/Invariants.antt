-- `deoxys_bc::encipher` meets its contract: after i turns the state is i rounds over the flat round keys, and these are the round keys.
-- Assumes nothing.
use mathlib.Core.Path.{◌≡◌}
use Rattle.deoxys_bc.proofs.Rounds.{ran}
use Rattle.deoxys_bc.proofs.encipher.Given as goal

abbrev pub invariant-loop-i : goal.invariant-loop-i
invariant-loop-i l = l.state ≡ ran l.keys l.initial.state l.i
