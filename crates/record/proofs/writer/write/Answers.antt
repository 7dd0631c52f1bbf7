-- `record::writer::write` meets its contract: refused by the fields, refused for want of room, or laid.
-- Assumes nothing.
use Rattle.record.proofs.WholeRecord.{nonce_short}
use Rattle.record.proofs.Writings.{fit}
use Rattle.record.proofs.WriteReturns.{by_head, by_texts, by_room, by_laying}
use mathlib.Core.Path.{refl, sym}
use Prim.Native.Nat.{◌+◌}
use lib.ListN.{length}
use native.Mathlib.Omega.{arith}
use borrow.Author.Rules.{rules}
use Rattle.fields.proofs.Numbers.{not_none}
use Rattle.record.proofs.writer.write.Goals as goal

pub returns-in-Err : goal.returns-in-Err
returns-in-Err c = rw (c.unwritten.ensures, c.number.ensures) (by_head _ _ _ c.in-Err.ensures (not_none _))

pub returns-in-Err-texts_refusal : goal.returns-in-Err-texts_refusal
returns-in-Err-texts_refusal c = rw (c.unwritten-in-Err-texts_refusal.ensures, c.number-in-Err-texts_refusal.ensures)
    (by_texts _ _ 0 c.in_default.ensures refl _ c.nonce_length.ensures _ c.in-Err-texts_refusal.ensures (not_none _))

pub overflow_add-length-2 : goal.overflow_add-length-2
overflow_add-length-2 c =
    let f = fit _ _ _ _ _ (sym c.in_default-texts_refusal.ensures) in
    let n = f.of_nonce in
    let h = f.of_note in
    search (n, h, rules)

pub overflow_add-length-3 : goal.overflow_add-length-3
overflow_add-length-3 c =
    let f = fit _ _ _ _ _ (sym c.in_default-texts_refusal.ensures) in
    let n = f.of_note in
    let h = f.of_cipher in
    search (n, h, rules)

pub returns-then-destination-length : goal.returns-then-destination-length
returns-then-destination-length c = rw c.unwritten-then-destination-length.ensures (by_room _ _ 0 c.in_default.ensures refl _ c.nonce_length.ensures 0
    c.in_default-texts_refusal.ensures refl (37 + length c.args.nonce.now + length c.args.note.now + length c.args.cipher.now) (omega arith) refl)

pub lay-requires : goal.lay-requires
lay-requires c =
    let f = fit _ _ _ _ _ (sym c.in_default-texts_refusal.ensures) in
    let n = f.of_nonce in
    let h = f.of_note in
    let k = f.of_cipher in
    let t = f.of_tag in
    let m = nonce_short c.args.suite in
    let q = c.nonce_length.ensures in
    search (n, h, k, t, m, q, rules)

pub returns : goal.returns
returns c = by_laying _ _ 0 c.in_default.ensures refl _ c.nonce_length.ensures 0 c.in_default-texts_refusal.ensures refl _ _ (omega arith) c.lay.ensures (omega arith)
