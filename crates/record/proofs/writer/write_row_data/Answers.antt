-- `record::writer::write_row_data` meets its contract: refused by row, note or room, or the two row bytes laid and then the note.
-- Assumes nothing.
use Rattle.record.specs.HouseRecord.{row_data, data_writing}
use native.Mathlib.Nat.{suc-ne-zero}
use Rattle.record.proofs.Writings.{refused_out, short_out, done_out, data_row, data_note, data_fits, data_length, data_laid, row_spelt}
use mathlib.Core.Path.{refl, sym, ◌∙◌}
use native.Mathlib.Omega.{arith}
use borrow.Author.Rules.{rules}
use Rattle.record.proofs.writer.write_row_data.Goals as goal

pub returns-in-Err : goal.returns-in-Err
unfolding data_writing
returns-in-Err c =
    let a = c.args in
    let b = rw c.from.ensures at c.in-Err.ensures.1 in
    rw (c.unwritten.ensures, c.number.ensures, c.in-Err.ensures.0) (refused_out _ (row_data a.row a.note.now) _ 13
    (data_row a.row 13 a.note.now (search rules) (rw b refl) (suc-ne-zero 12)) (suc-ne-zero 12))

pub returns-then-note-gt-MOST_NOTE : goal.returns-then-note-gt-MOST_NOTE
unfolding data_writing
returns-then-note-gt-MOST_NOTE c =
    let a = c.args in
    let b = rw c.from.ensures at c.in_default.ensures in
    rw (c.unwritten-then-note-gt-MOST_NOTE.ensures, c.number-then-note-gt-MOST_NOTE.ensures) (refused_out _ (row_data a.row a.note.now) _ 12
    (data_note a.row 0 a.note.now (search rules) (rw b refl) refl c.if-note-gt-MOST_NOTE.true) (suc-ne-zero 11))

pub returns-then-destination-bytes : goal.returns-then-destination-bytes
unfolding data_writing
returns-then-destination-bytes c =
    let a = c.args in
    let b = rw c.from.ensures at c.in_default.ensures in
    let w = data_length a.row a.note.now in
    rw c.unwritten-then-destination-bytes.ensures (short_out _ (row_data a.row a.note.now) a.destination.now
    (data_fits a.row 0 a.note.now (search rules) (rw b refl) refl c.if-note-gt-MOST_NOTE.false) (omega (arith, w, c.if-destination-bytes.true)))

pub returns : goal.returns
unfolding data_writing
returns c =
    let a = c.args in
    let b = rw c.from.ensures at c.in_default.ensures in
    let w = data_length a.row a.note.now in
    done_out _ (row_data a.row a.note.now) a.destination.now
    (data_fits a.row 0 a.note.now (search rules) (rw b refl) refl c.if-note-gt-MOST_NOTE.false) _ _ (sym w)
    (data_laid a.row a.note.now _ a.destination.now _ _ _ (c.to_be_bytes.ensures ∙ row_spelt _) (omega (arith, c.if-destination-bytes.false))
    c.put-at.ensures.destination_after c.put-at.ensures.value c.put.ensures.destination_after) (omega (arith, w, c.if-destination-bytes.false))
