-- `record::reader::read` meets its contract: past the end nothing is left; else the bytes left are read.
-- Assumes nothing.
use mathlib.Core.Path.{sym, ap, ◌∙◌}
use Rattle.octets.proofs.Parts.{rest_is}
use Rattle.fields.specs.Fields.{Read}
use Rattle.record.specs.HouseRecord.{Content, answer_at, reading}
use Rattle.record.proofs.RecordAt.{past_end}
use Rattle.record.proofs.reader.read.Goals as goal

pub returns-then-bytes-at : goal.returns-then-bytes-at
returns-then-bytes-at c = rw (c.no_record.ensures, c.number.ensures) (past_end _ _ c.if-bytes-at.true)

pub returns-in-Ok : goal.returns-in-Ok
unfolding reading
returns-in-Ok c = c.in-Ok.ensures.0 ∙ rw (rest_is c.args.bytes.now c.args.at)

pub returns-in-Err : goal.returns-in-Err
unfolding reading
returns-in-Err c = rw (c.no_record-in-Err.ensures, c.number-in-Err.ensures)
    (sym (ap (λ (x : Read Content). answer_at c.args.at x) (rw (rest_is c.args.bytes.now c.args.at) at c.in-Err.ensures)))
