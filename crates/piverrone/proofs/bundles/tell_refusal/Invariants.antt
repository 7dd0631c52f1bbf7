-- `piverrone::bundles::tell_refusal` is safe and ends: a record ends within the bytes.
-- Rests on std's contracts about standard error, and assumes nothing else.
use Prim.Native.Nat.{◌≤◌}
use lib.ListN.{length}
use Rattle.piverrone.proofs.bundles.tell_refusal.Given as goal

abbrev pub invariant-loop-i : goal.invariant-loop-i
invariant-loop-i g l = l.at ≤ length l.bytes
