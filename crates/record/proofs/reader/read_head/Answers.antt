-- `record::reader::read_head` meets its contract: two fields, each with its range, one after the other.
-- Assumes nothing.
use Rattle.record.proofs.Passed.{is_err}
use Rattle.record.proofs.Heads.{suite_refused, suite_out, row_refused, row_range}
use Rattle.record.proofs.reader.read_head.Goals as goal

pub returns-in_err-read_field : goal.returns-in_err-read_field
returns-in_err-read_field c =
    rw (is_err c.from_residual.result c.from_residual.ensures.1) (suite_refused _ _ c.in_err-read_field.ensures)

pub returns-in_err-range_refusal : goal.returns-in_err-range_refusal
returns-in_err-range_refusal c =
    rw (is_err c.from_residual-in_err-range_refusal.result c.from_residual-in_err-range_refusal.ensures.1, c.in_err-range_refusal.ensures.0)
    (suite_out _ _ c.in_ok-read_field.ensures (rw c.from.ensures at c.in_err-range_refusal.ensures.1))

pub returns-in_err-read_field-2 : goal.returns-in_err-read_field-2
returns-in_err-read_field-2 c =
    rw (is_err c.from_residual-in_err-read_field-2.result c.from_residual-in_err-read_field-2.ensures.1)
    (row_refused _ _ c.in_ok-read_field.ensures (rw c.from.ensures at c.in_ok-range_refusal.ensures) _ c.in_err-read_field-2.ensures)

pub returns : goal.returns
returns c =
    let in-suites = rw c.from.ensures at c.in_ok-range_refusal.ensures in
    row_range _ _ c.in_ok-read_field.ensures in-suites _ c.in_ok-read_field-2.ensures _
    (rw (c.from-2.ensures, c.pair.ensures) at c.range_refusal-2.ensures)
