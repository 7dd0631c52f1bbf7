-- `differences::pattern::fill`: after i stores the first i bytes are the pattern's.
use Rattle.std.proofs.Common.{◌≡◌, ℕ, ◌<◌, get_or}
use Rattle.differences.specs.Pattern.{pattern_at}
use Rattle.differences.proofs.pattern.fill.Given as goal

abbrev pub invariant-loop-i : goal.invariant-loop-i
invariant-loop-i l = (k : ℕ) → k < l.i → get_or l.s k 0 ≡ pattern_at l.salt k
