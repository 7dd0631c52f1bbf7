-- `record::writer::lay` meets its contract: six fields, each laid where the one before it ended, are the record.
-- Assumes nothing.
use Rattle.record.proofs.Writings.{six_laid, row_spelt}
use mathlib.Core.Path.{◌∙◌}
use native.Mathlib.Omega.{arith}
use Rattle.record.proofs.writer.lay.Goals as goal

pub returns : goal.returns
returns c =
    let a = c.args in
    six_laid (record {
      suite = a.suite;
      row = a.row;
      nonce = a.nonce.now;
      note = a.note.now;
      cipher = a.cipher.now;
      tag = a.tag.now;
    }) a.destination.now _ _ _ _ _ _ _ _ _ _ _ _ (omega (arith, c.requires.room)) (c.to_be_bytes.ensures ∙ row_spelt _)
    c.put_field-at.ensures.destination_after c.put_field-at.ensures.value c.put_field-at-2.ensures.destination_after c.put_field-at-2.ensures.value
    c.put_field-at-3.ensures.destination_after c.put_field-at-3.ensures.value c.put_field-at-4.ensures.destination_after c.put_field-at-4.ensures.value
    c.put_field-at-5.ensures.destination_after c.put_field-at-5.ensures.value c.put_field.ensures.destination_after
