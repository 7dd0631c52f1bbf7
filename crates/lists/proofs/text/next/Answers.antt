-- `lists::text::next`: past the separator that was found.
use Rattle.std.proofs.Common.{◌∙◌, sym}
use Rattle.lists.proofs.Parts.{past_found}
use Rattle.lists.proofs.text.next.Goals as goal

pub returns-in-Some-clause-text_value : goal.returns-in-Some-clause-text_value
returns-in-Some-clause-text_value c = past_found c.args.separator c.in-Some.n c.args.from c.args.text.now (sym c.in-Some.is ∙ c.first.ensures)
