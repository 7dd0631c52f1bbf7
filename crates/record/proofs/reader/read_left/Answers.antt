-- `record::reader::read_left` meets its contract: the head's refusal, the texts' refusal, or the record and its places.
-- Assumes nothing.
use mathlib.Core.Path.{refl}
use native.Mathlib.Omega.{arith}
use Rattle.record.proofs.Passed.{is_err}
use Rattle.record.proofs.RecordAt.{head_refused, texts_refused, record_read}
use Rattle.record.proofs.reader.read_left.Goals as goal

pub returns-in_err-read_head : goal.returns-in_err-read_head
returns-in_err-read_head c =
    rw (is_err c.from_residual.result c.from_residual.ensures.1) (head_refused _ _ c.in_err-read_head.ensures)

pub returns-in_err-texts : goal.returns-in_err-texts
returns-in_err-texts c =
    rw (is_err c.from_residual-in_err-texts.result c.from_residual-in_err-texts.ensures.1) (texts_refused _ c.in_ok-read_head.ensures _ c.nonce_length-nonce_length.ensures _ c.in_err-texts.ensures)

pub returns : goal.returns
returns c = (
  record_read _ c.in_ok-read_head.ensures _ c.nonce_length-nonce_length.ensures _ c.in_ok-texts.ensures c.args.at _ _ _ _ _ _ c.pair.ensures
      (omega arith) (omega arith) (omega arith) (omega arith) (omega arith),
  refl,
)
