-- `differences::pattern::checksum`: what is left, after the sum so far, has the checksum of all.
use Rattle.std.proofs.Common.{◌≡◌, ◌<◌, drop}
use Rattle.differences.specs.Pattern.{checksum_from}
use Rattle.differences.proofs.pattern.checksum.Given as goal

abbrev pub invariant-loop-byte : goal.invariant-loop-byte
invariant-loop-byte l = record { below : l.sum < 65521; left : checksum_from l.sum (drop l.byte-index l.s) ≡ checksum_from 0 l.s }
