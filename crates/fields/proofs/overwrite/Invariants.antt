-- `fields::overwrite` meets its contract: after i bytes the part is the body as far as byte i, and as it was from there.
-- Assumes nothing.
use Rattle.std.proofs.Common.{◌≡◌}
use Rattle.octets.proofs.Parts.{upto}
use Rattle.fields.proofs.overwrite.Given as goal

abbrev pub invariant-loop-i : goal.invariant-loop-i
invariant-loop-i l = l.part ≡ upto l.body l.initial.part l.i
