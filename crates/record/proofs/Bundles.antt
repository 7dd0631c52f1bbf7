-- What the reader's answer says of the bytes, and each return and each turn of `read_bundle`.
-- Assumes nothing.
use mathlib.Core.Path.{◌≡◌, refl, sym, ap, ◌∙◌, subst}
use mathlib.Core.Bool.{false}
use mathlib.Core.List.{List, [], ◌∷◌}
use Prim.Native.Nat.{ℕ, zero, suc, ◌+◌, ◌-◌, ◌≤◌, ◌<◌}
use native.Mathlib.Nat.{add-zero, zero-add}
use native.Mathlib.Omega.{arith}
use lib.Dec.{eqb}
use lib.ListN.{length, drop, length-drop, drop_of_length-le}
use lib.Seq.{drop-drop}
use borrow.Author.Tests.{ne_eqb}
use Rattle.record.specs.declared.reader.Record.{Record}
use Rattle.record.specs.declared.reader.Bundle.{Bundle}
use Rattle.fields.specs.Fields.{Read, refused, got, and_then}
use Rattle.record.specs.HouseRecord.{Content, written, take_record, take_records, found_at, answer_at, reading, counted, bundle_reading}
use Rattle.fields.proofs.Accepting.{NotZero}
use Rattle.record.proofs.WholeRecord.{record_not_zero, Lengths, took_record}

-- ---- what the reader's answer says

-- a record that was read: its content, and the bytes after it
pub record ReadAt (s : List ℕ) (at : ℕ) (r : Record) : Type 0 where
  pub content : Content
  pub is : r ≡ found_at at content
  pub taken : take_record (drop at s) ≡ got content (drop (at + r.length) s)
  pub within : r.length ≤ length s - at
  pub lengths : Lengths content

module _ (s : List ℕ) (at : ℕ) (r : Record) (e : r ≡ reading s at) where
  pub was_refused : (r.number ≡ 0 → ⊥) → take_record (drop at s) ≡ refused r.number
  unfolding reading
  was_refused h = by (take_record (drop at s)) refl e
    where
      by : (x : Read Content) → take_record (drop at s) ≡ x → r ≡ answer_at at x → take_record (drop at s) ≡ refused r.number
      by (refused n) q k = q ∙ rw k
      by (got c left) q k = absurd (h (ap (λ (z : Record). z.number) k))

  pub was_read : r.number ≡ 0 → ReadAt s at r
  unfolding reading
  was_read z = by (take_record (drop at s)) refl e
    where
      by : (x : Read Content) → take_record (drop at s) ≡ x → r ≡ answer_at at x → ReadAt s at r
      by (refused n) q k =
          let h : n ≡ 0 → ⊥ = subst (λ (x : Read Content). NotZero x) q (record_not_zero (drop at s)) in
          absurd (h (sym (ap (λ (x : Record). x.number) k) ∙ z))
      by (got c left) q k =
          let t = took_record (drop at s) c left q in
          record {
            content = c;
            is = k;
            taken = q ∙ ap (λ (x : List ℕ). got c x) (t.left ∙ rw k (drop-drop (length (written c)) at s));
            within = rw k (rw (length-drop at s) at t.within);
            lengths = t.lengths;
          }

-- ---- the loop: from here on, with so many records before

abbrev pub counted_from : ℕ → Read (List Content) → Bundle
counted_from records (refused number) = record { number = number; records = 0 }
counted_from records (got contents left) = record { number = 0; records = records + length contents }

pub from_none : (s : List ℕ) → counted_from 0 (take_records 64 (drop 0 s)) ≡ bundle_reading s
unfolding bundle_reading
from_none s = by (take_records 64 s)
  where
    by : (x : Read (List Content)) → counted_from 0 x ≡ counted x
    by (refused n) = refl
    by (got contents left) = ap (λ (n : ℕ). record { number = 0; records = n }) (zero-add (length contents))

pub no_bytes : (allowed : ℕ) → take_records allowed [] ≡ got [] []
unfolding take_records
no_bytes zero = refl
no_bytes (suc allowed) = refl

-- one record more
one_more : (c : Content) (records : ℕ) (x : Read (List Content))
    → counted_from records (and_then x (λ contents after. got (c ∷ contents) after)) ≡ counted_from (records + 1) x
one_more c records (refused n) = refl
one_more c records (got contents left) =
    let e : records + length (c ∷ contents) ≡ records + 1 + length contents = omega arith in
    ap (λ (n : ℕ). record { number = 0; records = n }) e

module _ (s : List ℕ) (at records : ℕ) (inv : counted_from records (take_records (64 - records) (drop at s)) ≡ bundle_reading s) where
  pub bundle_end : length s ≤ at → ◌≡◌ {A = Bundle} (record { number = 0; records = records }) (bundle_reading s)
  bundle_end h = (rw (add-zero records)) ∙ (rw (drop_of_length-le s h, no_bytes (64 - records)) at inv)

  module _ (h : at < length s) where
    bytes_left : eqb (length (drop at s)) 0 ≡ false
    bytes_left = let n = length-drop at s in ne_eqb (length (drop at s)) 0 (λ z. omega (arith, n, z))

    pub bundle_full : records ≡ 64 → ◌≡◌ {A = Bundle} (record { number = 15; records = 0 }) (bundle_reading s)
    unfolding take_records
    bundle_full e = rw (e, bytes_left) at inv

    module _ (k : records < 64) where
      left_allowed : 64 - records ≡ suc (64 - (records + 1))
      left_allowed = omega arith

      onward : (x : Read Content) → take_record (drop at s) ≡ x
          → counted_from records
          (and_then x (λ c left. and_then (take_records (64 - (records + 1)) left) (λ contents after. got (c ∷ contents) after)))
          ≡ bundle_reading s
      unfolding take_records
      onward x e = rw (left_allowed, bytes_left, e) at inv

      pub bundle_bad : (n : ℕ) → take_record (drop at s) ≡ refused n → ◌≡◌ {A = Bundle} (record { number = n; records = 0 }) (bundle_reading s)
      bundle_bad n e = onward (refused n) e

      pub bundle_next : (c : Content) (next : ℕ) → take_record (drop at s) ≡ got c (drop next s)
          → counted_from (records + 1) (take_records (64 - (records + 1)) (drop next s)) ≡ bundle_reading s
      bundle_next c next e = sym (one_more c records (take_records (64 - (records + 1)) (drop next s))) ∙ onward (got c (drop next s)) e
