-- `piverrone::bundles::tell_records` is safe and ends: a record ends within the bytes.
-- Rests on std's contracts about standard output and standard error, and assumes nothing else.
use Prim.Native.Nat.{◌≤◌}
use lib.ListN.{length}
use Rattle.piverrone.proofs.bundles.tell_records.Given as goal

abbrev pub invariant-loop-i : goal.invariant-loop-i
invariant-loop-i g l = l.at ≤ length l.bytes
