-- What the reader's answer says of the bytes that it was read from: where the record ends, and where its note lies. Refused, all is zero.
-- Assumes nothing.
use mathlib.Core.Path.{◌≡◌, ap}
use mathlib.Core.List.{List}
use Prim.Native.Nat.{ℕ, ◌+◌, ◌-◌, ◌≤◌}
use native.Mathlib.Omega.{arith}
use lib.ListN.{length, drop}
use Rattle.fields.specs.Fields.{Read, refused, got}
use Rattle.record.specs.declared.reader.Record.{Record}
use Rattle.record.specs.HouseRecord.{Content, written, take_record, found_at, answer_at, reading}
use Rattle.record.proofs.Bundles.{was_read}
use Rattle.record.proofs.Sizes.{written-length}

pub record Within (s : List ℕ) (at : ℕ) (r : Record) : Type 0 where
  pub whole : r.length ≤ length s - at
  pub note : r.note + r.note_length ≤ length s
  pub short : r.note_length ≤ 1024

found : (s : List ℕ) (at : ℕ) (r : Record) (c : Content) → r ≡ found_at at c → r.length ≤ length s - at → length c.note ≤ 1024 → Within s at r
found s at r c e w n =
    let l = written-length c in
    let m : r.length ≡ length (written c) = ap (λ (x : Record). x.length) e in
    let a : r.note ≡ at + 15 + length c.nonce = ap (λ (x : Record). x.note) e in
    let b : r.note_length ≡ length c.note = ap (λ (x : Record). x.note_length) e in
    record { whole = w; note = omega (arith, l, m, a, b, w); short = omega (arith, b, n) }

pub within : (s : List ℕ) (at : ℕ) (r : Record) → r ≡ reading s at → Within s at r
unfolding reading
within s at r e = by (take_record (drop at s)) e
  where
    by : (x : Read Content) → r ≡ answer_at at x → Within s at r
    by (refused n) k = rw k (record { whole = omega arith; note = omega arith; short = omega arith })
    by (got c left) k =
        let f = was_read s at r e (ap (λ (x : Record). x.number) k) in
        found s at r f.content f.is f.within f.lengths.of_note

-- of the note, a fact each
module _ (s : List ℕ) (at : ℕ) (r : Record) (e : r ≡ reading s at) where
  pub note_within : r.note + r.note_length ≤ length s
  note_within = (within s at r e).note

  pub note_short : r.note_length ≤ 1024
  note_short = (within s at r e).short
