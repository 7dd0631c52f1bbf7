-- `quoted::spell` meets its contract: what is laid, and the spelling of what is left, are the whole.
-- Assumes nothing.
use Rattle.std.proofs.Common.{◌≡◌, length}
use Rattle.quoted.proofs.Spellings.{Laid}
use Rattle.quoted.proofs.spell.Given as goal

abbrev pub invariant-loop-byte : goal.invariant-loop-byte
invariant-loop-byte l = Laid l.note l.destination l.at l.byte-index × (length l.destination ≡ length l.initial.destination)
