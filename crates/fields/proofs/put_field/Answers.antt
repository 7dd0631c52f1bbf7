-- `fields::put_field` meets its contract: the head is laid, and then the bytes where it ends.
-- Assumes nothing.
use borrow.Author.Rules.{rules}
use Rattle.fields.proofs.Laying.{laid_field}
use Rattle.fields.proofs.put_field.Goals as goal

pub returns-clause-destination_after : goal.returns-clause-destination_after
returns-clause-destination_after c =
    let a = c.args in
    laid_field a.destination.now _ _ a.body.now a.at _ a.tag _ _ (search rules) (search rules) c.put-at.ensures.value
    c.put-at.ensures.destination_after c.put.ensures.destination_after (search (c.to_be_bytes.ensures, rules)) (search (c.to_be_bytes.ensures, rules))
