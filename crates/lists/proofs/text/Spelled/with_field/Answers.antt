-- `lists::text::Spelled::with_field`: a field is '-', or digits.
use Rattle.std.proofs.Common.{rules}
use Rattle.lists.proofs.Spelling.{adds_digits, adds_nothing}
use Rattle.lists.proofs.text.Spelled.with_field.Goals as goal

pub returns-then-eq : goal.returns-then-eq
returns-then-eq c = adds_nothing _ _ (search rules) (search rules)

pub returns : goal.returns
returns c = adds_digits _ c.with_digits.result _ (search rules) c.with_digits.ensures
