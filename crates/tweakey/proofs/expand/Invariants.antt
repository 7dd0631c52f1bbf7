-- `tweakey::expand` meets its contract: after i turns i key parts lie end to end, and TK3 and TK2 have taken i
-- steps; here the round constants are tested, once.
-- Assumes nothing.
use mathlib.Core.Path.{◌≡◌}
use Rattle.octets.specs.Octets.{◌⊕◌}
use Rattle.tweakey.specs.Tweakey.{tk3, tk2, constant_block, flat}
use Rattle.tweakey.proofs.expand.Given as goal

abbrev pub invariant-loop-i : goal.invariant-loop-i
invariant-loop-i l = (l.bytes ≡ flat (λ j. tk3 j l.initial.t3 ⊕ tk2 j l.initial.t2 ⊕ constant_block j) l.i) × (l.t3 ≡ tk3 l.i l.initial.t3) × (l.t2 ≡ tk2 l.i l.initial.t2)
