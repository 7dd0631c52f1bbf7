-- `lists::text::place`: what `first` gives, or the length.
use Rattle.std.specs.Prelude.{eqb}
use Rattle.lists.proofs.Parts.{first_or_end}
use Rattle.lists.proofs.text.place.Goals as goal

pub returns-clause-value : goal.returns-clause-value
returns-clause-value c = rw (c.unwrap_or.ensures, c.first.ensures) (first_or_end (λ x. eqb x c.args.byte) c.args.text.now)
