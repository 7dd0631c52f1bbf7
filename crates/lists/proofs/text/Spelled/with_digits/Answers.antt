-- `lists::text::Spelled::with_digits`: at first all is left; a byte more is two digits more.
use Rattle.std.proofs.Common.{[], refl, rules}
use Rattle.lists.proofs.Spelling.{adds_none, two_more}
use Rattle.lists.proofs.text.Spelled.with_digits.Goals as goal

pub loop-left-init : goal.loop-left-init
loop-left-init c = ([], refl, adds_none _ (search rules))

pub loop-left-preserved : goal.loop-left-preserved
loop-left-preserved c = two_more _ c.loop-left.self _ _ c.loop-left.left.now c.in-len2-up.len_at_least c.loop-left.invariant c.in_ok-self.ensures
