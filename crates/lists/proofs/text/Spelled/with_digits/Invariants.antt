-- `lists::text::Spelled::with_digits`: the field is what is spelled and what is left.
use Rattle.std.proofs.Common.{length}
use Rattle.lists.proofs.Spelling.{SoFar}
use Rattle.lists.proofs.text.Spelled.with_digits.Given as goal

abbrev pub invariant-loop-left : goal.invariant-loop-left
invariant-loop-left l = SoFar l.fn.self l.self l.field l.left

abbrev pub decreases-loop-left : goal.decreases-loop-left
decreases-loop-left l = length l.left
