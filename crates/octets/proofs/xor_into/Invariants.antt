-- `octets::xor_into` meets its contract: after i bytes the part is the XOR as far as byte i, and as it was from there.
-- Assumes nothing.
use Rattle.std.proofs.Common.{◌≡◌}
use Rattle.octets.specs.Octets.{◌⊕◌}
use Rattle.octets.proofs.Parts.{upto}
use Rattle.octets.proofs.xor_into.Given as goal

abbrev pub invariant-loop-i : goal.invariant-loop-i
invariant-loop-i l = l.part ≡ upto (l.initial.part ⊕ l.block) l.initial.part l.i
