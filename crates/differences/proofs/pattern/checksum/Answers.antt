-- `differences::pattern::checksum`: one byte is taken off what is left; at the end none is left.
use Rattle.std.proofs.Common.{◌<◌, ◌≤◌, length, drop-cons, add-one, arith}
use native.Mathlib.Nat.{mod-lt}
use lib.ListN.{drop_of_length-le}
use Rattle.differences.specs.Pattern.{checksum_from}
use Rattle.differences.proofs.pattern.checksum.Goals as goal

pub loop-byte-preserved : goal.loop-byte-preserved
unfolding checksum_from
loop-byte-preserved c =
    let s = c.args.s.now in let h : c.loop-byte.byte-index < length s = omega arith in
    record { below = mod-lt _ (omega arith); left = rw (c.from.ensures, add-one) (rw (drop-cons s c.loop-byte.byte-index 0) at c.loop-byte.invariant.left) }

pub returns : goal.returns
unfolding checksum_from
returns c = let s = c.args.s.now in let h : length s ≤ c.loop-byte.byte-index = omega arith in rw (drop_of_length-le s h) at c.loop-byte.invariant.left
