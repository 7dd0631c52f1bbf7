-- `piverrone::bundles::tell_refusal` is safe and ends: a record ends within the bytes.
-- Rests on std's contracts about standard error, and assumes nothing else.
use borrow.Author.Rules.{rules}
use Rattle.piverrone.proofs.Records.{within}
use Rattle.piverrone.proofs.bundles.tell_refusal.Goals as goal

pub overflow_add-at : goal.overflow_add-at
overflow_add-at g c =
    let w = within c.args.bytes.now c.loop-i.at _ c.read-found.ensures in
    let h = w.whole in
    search (h, rules)

pub loop-i-preserved : goal.loop-i-preserved
loop-i-preserved g c =
    let w = within c.args.bytes.now c.loop-i.at _ c.read-found.ensures in
    let h = w.whole in
    search (h, rules)
