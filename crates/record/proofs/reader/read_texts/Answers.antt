-- `record::reader::read_texts` meets its contract: four fields, each at the place where the one before it ended.
-- Assumes nothing.
use mathlib.Core.Path.{refl}
use Rattle.record.proofs.Passed.{is_err}
use Rattle.record.proofs.TextFields.{nonce_refused, note_refused, cipher_refused, tag_refused, all_read}
use Rattle.record.proofs.reader.read_texts.Goals as goal

pub returns-in_err-bytes : goal.returns-in_err-bytes
returns-in_err-bytes c =
    rw (is_err c.from_residual.result c.from_residual.ensures.1) (nonce_refused _ _ _ c.in_err-bytes.ensures)

pub returns-in_err-note : goal.returns-in_err-note
returns-in_err-note c =
    rw (is_err c.from_residual-in_err-note.result c.from_residual-in_err-note.ensures.1) (note_refused _ _ _ c.in_ok-bytes.ensures _ refl _ c.in_err-note.ensures)

pub returns-in_err-cipher : goal.returns-in_err-cipher
returns-in_err-cipher c =
    rw (is_err c.from_residual-in_err-cipher.result c.from_residual-in_err-cipher.ensures.1) (cipher_refused _ _ _ c.in_ok-bytes.ensures _ refl _ c.in_ok-note.ensures _ refl _ c.in_err-cipher.ensures)

pub returns-in_err-read_field : goal.returns-in_err-read_field
returns-in_err-read_field c =
    rw (is_err c.from_residual-in_err-read_field.result c.from_residual-in_err-read_field.ensures.1) (tag_refused _ _ _ c.in_ok-bytes.ensures _ refl _ c.in_ok-note.ensures _ refl _ c.in_ok-cipher.ensures _ refl _
    c.in_err-read_field.ensures)

pub returns : goal.returns
returns c = all_read _ _ _ c.in_ok-bytes.ensures _ refl _ c.in_ok-note.ensures _ refl _ c.in_ok-cipher.ensures _ refl _ c.in_ok-read_field.ensures
