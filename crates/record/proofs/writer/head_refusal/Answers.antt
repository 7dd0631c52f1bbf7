-- `record::writer::head_refusal` meets its contract: the suite's number, and then the row's.
-- Assumes nothing.
use mathlib.Core.Path.{refl}
use native.Mathlib.Nat.{suc-ne-zero}
use borrow.Author.Rules.{rules}
use Rattle.record.proofs.Passed.{is_err}
use Rattle.fields.proofs.Numbers.{range_number}
use Rattle.record.proofs.Writings.{suite_number, row_then}
use Rattle.record.proofs.writer.head_refusal.Goals as goal

pub returns-in_err-range_refusal : goal.returns-in_err-range_refusal
returns-in_err-range_refusal c =
    let b = rw c.from.ensures at c.in_err-range_refusal.ensures.1 in
    rw (is_err c.from_residual.result c.from_residual.ensures.1, c.in_err-range_refusal.ensures.0) (suite_number c.args.suite c.args.row (search rules) 13 (rw b refl) (suc-ne-zero 12))

pub returns : goal.returns
returns c =
    let b = rw c.from.ensures at c.in_ok-range_refusal.ensures in
    row_then c.args.suite c.args.row (search rules) 0 _ (rw b refl) refl (range_number _ _ (rw c.from-2.ensures at c.range_refusal-2.ensures))
