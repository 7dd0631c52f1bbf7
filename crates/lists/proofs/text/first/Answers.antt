-- `lists::text::first`: what `position` gives.
use Rattle.std.proofs.Common.{rules}
use Rattle.std.specs.Prelude.{eqb}
use Rattle.std.proofs.lemmas.Iterator.{YieldsList-from_slice}
use Rattle.std.proofs.lemmas.Iterator.Search.{position_from_yields_List}
use Rattle.lists.proofs.text.first.Goals as goal

pub returns : goal.returns
returns c =
    position_from_yields_List (λ x. eqb x c.args.byte) _ _ c.position.result c.position.ensures.ran
    (YieldsList-from_slice c.args.text.now cc) (λ x b q k. search rules)
