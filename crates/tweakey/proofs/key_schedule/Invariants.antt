-- `tweakey::key_schedule` meets its contract: after i turns i round keys lie end to end, and the tweak has taken i steps.
-- Assumes nothing.
use mathlib.Core.Path.{◌≡◌}
use Rattle.tweakey.specs.Tweakey.{tweak_after, flat, round_key}
use Rattle.tweakey.proofs.key_schedule.Given as goal

abbrev pub invariant-loop-i : goal.invariant-loop-i
invariant-loop-i l = (l.keys ≡ flat (round_key l.k l.initial.t) l.i) × (l.t ≡ tweak_after l.i l.initial.t)
