-- `numerals::spelt` meets its contract: the value is what the digits read so far spell, or one above the limit.
-- Assumes nothing.
use Rattle.numerals.proofs.Spelling.{Reading}
use Rattle.numerals.proofs.spelt.Given as goal

abbrev pub invariant-loop-byte : goal.invariant-loop-byte
invariant-loop-byte l = Reading l.text l.value l.byte-index
