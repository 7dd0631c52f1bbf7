-- The proofs of the other statements of specs/Records: refusals, places, the numbers in their order, and the cipher's associated data.
-- Assumes nothing.
use mathlib.Core.Path.{◌≡◌, refl, sym, ap, ◌∙◌, subst}
use mathlib.Core.Logic.{◌⊎◌, inl, inr}
use mathlib.Core.Bool.{Bool, true, false}
use mathlib.Core.List.{List, [], ◌∷◌, ◌++◌}
use Prim.Native.Nat.{ℕ, ◌-◌, ◌/◌, ◌%◌, ◌^◌, ◌≤◌, ◌<◌}
use native.Mathlib.Nat.{suc-ne-zero}
use native.Mathlib.Omega.{arith}
use lib.Dec.{leb}
use lib.ListN.{length, drop, get_or, replicate, length-replicate, drop_of_length-le}
use lib.Seq.{drop_at, drop-drop}
use borrow.Author.Tests.{eq-eqb, ne_eqb, le-leb, lt-leb, leb-true}
use Rattle.octets.specs.Octets.{pick, big_endian}
use Rattle.suites.specs.Suites.{nonce_length}
use Rattle.fields.specs.Fields.{Rule, between, told, Read, refused, got, take_field, take_fields, fields, fields_refusal}
use Rattle.fields.proofs.Ranges.{inside}
use Rattle.fields.proofs.Readings.{stop, fields_join}
use Rattle.fields.proofs.Accepting.{Short, taken_all}
use Rattle.record.specs.declared.reader.Record.{Record}
use Rattle.record.specs.declared.reader.Bundle.{Bundle}
use Rattle.record.specs.HouseRecord.{row_rule, note_rule, text_rules, rules, Content, bodies, written, row_data, Writing, data_writing, take_record, take_records, found_at, reading, counted, bundle_reading}
use Rattle.record.proofs.Bundles.{was_refused, was_read}
use Rattle.record.proofs.Sizes.{written-length}
use Rattle.record.proofs.WholeRecord.{Good, rules_short, nonce_short}
use Rattle.record.proofs.Writings.{suite_number, row_then, head_refuses, texts_refuse, nonce_other, note_long, cipher_long, tag_other, texts_fit}
use Rattle.promises.specs.Records.{RefusedGivesNoRecord, Leaves, RefusedWritesNothing, NoPlacePastTheEnd, Within, PlacesLieWithin, ChecksInOrder, ReadFieldByField, InRange, WritesInOrder, WrittenFieldByField, Longest, DataTellsRowAndNote, SealedRowComesBack, OneOutcomeOfRecords}
use Rattle.promises.proofs.Promises.{round_trip}
use Rattle.promises.proofs.RecordViews.{Outcome, laid, short, bad, outcome, write_outcome, good_takes, takes_good, in_bounds}
use Rattle.promises.proofs.RecordsBothWays.{reads_what_was_written}

-- ---- what a refusal leaves

pub refused_gives_no_record : RefusedGivesNoRecord
unfolding reading bundle_reading
refused_gives_no_record = (
  λ s at r a h. a ∙ rw (was_refused s at r a h),
  λ s b a h. by b (take_records 64 s) a h,
)
  where
    by : (b : Bundle) (x : Read (List Content)) → b ≡ counted x → (b.number ≡ 0 → ⊥) → b.records ≡ 0
    by b (refused n) e h = ap (λ (y : Bundle). y.records) e
    by b (got contents left) e h = absurd (h (ap (λ (y : Bundle). y.number) e))

leaves : (n : ℕ) (text d : List ℕ) (w : Writing) → Outcome n text d w → Leaves text d w
leaves n text d w (laid z h e) = record {
  refused = λ k. absurd (k (ap (λ (x : Writing). x.answer.number) e));
  done = λ _. (ap (λ (x : Writing). x.destination) e, ap (λ (x : Writing). x.answer.length) e);
}
leaves n text d w (short z h e) = record {
  refused = λ _. (ap (λ (x : Writing). x.destination) e, ap (λ (x : Writing). x.answer.length) e);
  done = λ k. absurd (suc-ne-zero 23 (sym (ap (λ (x : Writing). x.answer.number) e) ∙ k));
}
leaves n text d w (bad h e) = record {
  refused = λ _. (ap (λ (x : Writing). x.destination) e, ap (λ (x : Writing). x.answer.length) e);
  done = λ k. absurd (h (sym (ap (λ (x : Writing). x.answer.number) e) ∙ k));
}

pub refused_writes_nothing : RefusedWritesNothing
unfolding data_writing
refused_writes_nothing = (
  λ c d w a. leaves _ (written c) d w (write_outcome c d w a),
  λ row note d w a.
      let n = fields_refusal (row_rule ∷ note_rule ∷ []) (big_endian 2 row ∷ note ∷ []) in
      leaves n (row_data row note) d w (outcome n (row_data row note) d w a),
)

-- ---- places

pub no_place_past_the_end : NoPlacePastTheEnd
unfolding reading take_record take_fields take_field
no_place_past_the_end s at r h a = a ∙ rw (drop_of_length-le s h)

pub places_lie_within : PlacesLieWithin
places_lie_within s at r a z =
    let f = was_read s at r a z in
    let g = f.lengths in
    let w = written-length f.content in
    by f.content f.is g.of_tag (omega (arith, w, g.of_nonce, g.of_note, g.of_cipher, g.of_tag)) f.within
  where
    by : (c : Content) → r ≡ found_at at c → length c.tag ≡ 16 → length (written c) ≤ 5172 → r.length ≤ length s - at → Within s at r
    by c e t l w =
        let n = written-length c in
        let m : r.length ≡ length (written c) = ap (λ (x : Record). x.length) e in
        record {
          nonce = ap (λ (x : Record). x.nonce) e;
          note = rw e (omega arith);
          cipher = rw e (omega arith);
          tag = rw e (omega arith);
          end = rw e (omega (arith, n, t));
          inside = omega (arith, m, n, w);
          longest = omega (arith, m, l);
        }

-- ---- the numbers in their order

checks_in_order : (r : Rule) (s : List ℕ) → ChecksInOrder r s
unfolding take_field
checks_in_order r s = record {
  few = λ h. simp (lt-leb _ _ h);
  tag = λ h k. simp (le-leb _ _ h, ne_eqb _ _ k);
  size = λ h k e. size h k e;
  missing = λ h k l g m.
      let n : length s - 3 < told s = omega arith in
      simp (le-leb _ _ h, eq-eqb _ _ k, le-leb _ _ l, le-leb _ _ g, lt-leb _ _ n);
  range = λ k l g m e.
      let h : 3 ≤ length s = omega arith in
      let n : told s ≤ length s - 3 = omega arith in
      simp (le-leb _ _ h, eq-eqb _ _ k, le-leb _ _ l, le-leb _ _ g, le-leb _ _ n, e);
  done = λ k l g m e.
      let h : 3 ≤ length s = omega arith in
      let n : told s ≤ length s - 3 = omega arith in
      simp (le-leb _ _ h, eq-eqb _ _ k, le-leb _ _ l, le-leb _ _ g, le-leb _ _ n, e, drop-drop);
}
  where
    size : 3 ≤ length s → get_or s 0 0 ≡ r.tag → (told s < r.least) ⊎ (r.greatest < told s) → take_field r s ≡ refused 12
    size h k (inl e) = simp (le-leb _ _ h, eq-eqb _ _ k, lt-leb _ _ e)
    size h k (inr e) = by (leb r.least (told s)) refl
      where
        by : (b : Bool) → leb r.least (told s) ≡ b → take_field r s ≡ refused 12
        by true q = simp (le-leb _ _ h, eq-eqb _ _ k, q, lt-leb _ _ e)
        by false q = simp (le-leb _ _ h, eq-eqb _ _ k, q)

-- the rules before one of them are short as all are
short_before : (before others : List Rule) → Short (before ++ others) → Short before
short_before [] others h = tt
short_before (r ∷ before) others h = (h.0, short_before before others h.1)

pub read_field_by_field : ReadFieldByField
unfolding reading take_record
read_field_by_field = (
  checks_in_order,
  λ before others r bodies front left n x e z l f a.
      let s = fields before bodies ++ left in
      let k = short_before before (r ∷ others) (subst Short e (rules_short (get_or s 3 0))) in
      let g : take_fields (rules (get_or s 3 0)) s ≡ refused n =
      rw e
      (fields_join before (r ∷ others) s ∙ rw (taken_all before bodies left k z l, stop r others left n f)) in
      a ∙ rw (drop_at front s (length front) refl, g),
)

-- ---- the writer's numbers

-- a number that is not in its range
out_of : (greatest n : ℕ) → (InRange greatest n → ⊥) → ◌≡◌ {A = ℕ} 13 (pick (between 1 greatest n) 0 13)
out_of greatest n h = by (leb 1 n) (leb n greatest) refl refl
  where
    by : (a b : Bool) → leb 1 n ≡ a → leb n greatest ≡ b → ◌≡◌ {A = ℕ} 13 (pick (pick a b false) 0 13)
    by true true p q = absurd (h (leb-true 1 n p, leb-true n greatest q))
    by true false p q = refl
    by false b p q = refl

module _ (c : Content) (d : List ℕ) (w : Writing) (fits : c.row < 65536)
    (o : Outcome (fields_refusal (rules c.suite) (bodies c)) (written c) d w) where
  -- the writer's number is the fields'
  numbered : (n : ℕ) → n ≡ fields_refusal (rules c.suite) (bodies c) → (n ≡ 0 → ⊥) → w.answer.number ≡ n
  numbered n e h = by o
    where
      by : Outcome (fields_refusal (rules c.suite) (bodies c)) (written c) d w → w.answer.number ≡ n
      by (laid z k q) = absurd (h (e ∙ z))
      by (short z k q) = absurd (h (e ∙ z))
      by (bad k q) = ap (λ (x : Writing). x.answer.number) q ∙ sym e

  module _ (s : InRange 4 c.suite) where
    row_wrong : (InRange 20 c.row → ⊥) → w.answer.number ≡ 13
    row_wrong h =
        let e = row_then c.suite c.row fits 0 13 (inside 1 4 c.suite 13 s.0 s.1) refl (out_of 20 c.row h) in
        numbered 13 (head_refuses c 13 e (suc-ne-zero 12)) (suc-ne-zero 12)

    module _ (r : InRange 20 c.row) where
      of_texts : (m : ℕ) → m ≡ fields_refusal (text_rules (nonce_length c.suite)) (c.nonce ∷ c.note ∷ c.cipher ∷ c.tag ∷ [])
          → m ≡ fields_refusal (rules c.suite) (bodies c)
      of_texts m e =
          texts_refuse c 0 (row_then c.suite c.row fits 0 0 (inside 1 4 c.suite 13 s.0 s.1) refl
          (inside 1 20 c.row 13 r.0 r.1)) refl m e

      twelve : ◌≡◌ {A = ℕ} 12 (fields_refusal (text_rules (nonce_length c.suite)) (c.nonce ∷ c.note ∷ c.cipher ∷ c.tag ∷ []))
          → w.answer.number ≡ 12
      twelve e = numbered 12 (of_texts 12 e) (suc-ne-zero 11)

  writes_in_order : WritesInOrder c (length d) w.answer.number
  writes_in_order = record {
    suite = λ h.
        numbered 13 (head_refuses c 13 (suite_number c.suite c.row fits 13 (out_of 4 c.suite h) (suc-ne-zero 12)) (suc-ne-zero 12))
        (suc-ne-zero 12);
    row = λ s h. row_wrong s h;
    nonce = λ s r h. twelve s r (nonce_other _ _ _ _ _ h);
    note = λ s r n h. twelve s r (note_long _ _ _ _ _ n h);
    cipher = λ s r n o h. twelve s r (cipher_long _ _ _ _ _ n o h);
    tag = λ s r n o p h. twelve s r (tag_other _ _ _ _ _ n o p h);
    destination = λ s r n o p t h. last (sym (of_texts s r 0 (texts_fit _ _ _ _ _ n o p t))) h;
    done = λ s r n o p t h. first (sym (of_texts s r 0 (texts_fit _ _ _ _ _ n o p t))) h;
  }
    where
      last : fields_refusal (rules c.suite) (bodies c) ≡ 0 → length d < length (written c) → w.answer.number ≡ 24
      last z h = by o
        where
          by : Outcome (fields_refusal (rules c.suite) (bodies c)) (written c) d w → w.answer.number ≡ 24
          by (laid k g q) = absurd (omega (arith, h, g))
          by (short k g q) = ap (λ (x : Writing). x.answer.number) q
          by (bad g q) = absurd (g z)

      first : fields_refusal (rules c.suite) (bodies c) ≡ 0 → length (written c) ≤ length d → w.answer.number ≡ 0
      first z h = by o
        where
          by : Outcome (fields_refusal (rules c.suite) (bodies c)) (written c) d w → w.answer.number ≡ 0
          by (laid k g q) = ap (λ (x : Writing). x.answer.number) q
          by (short k g q) = absurd (omega (arith, h, g))
          by (bad g q) = absurd (g z)

pub written_field_by_field : WrittenFieldByField
written_field_by_field c d w fits a = writes_in_order c d w fits (write_outcome c d w a)

-- ---- the longest record

longest_content : Content
longest_content =
    record { suite = 4; row = 20; nonce = replicate 15 0; note = replicate 1024 0; cipher = replicate 4096 0; tag = replicate 16 0 }

longest_good : Good longest_content
unfolding longest_content
longest_good =
    let e = row_then 4 20 (omega arith) 0 0 refl refl refl in
    let f =
    texts_fit 15 (replicate 15 0) (replicate 1024 0) (replicate 4096 0) (replicate 16 0) (length-replicate {A = ℕ} 15 0)
    (let l = length-replicate {A = ℕ} 1024 0 in omega (arith, l)) (let l = length-replicate {A = ℕ} 4096 0 in omega (arith, l))
    (length-replicate {A = ℕ} 16 0) in
    record { unrefused = sym (texts_refuse longest_content 0 e refl 0 f); row_fits = omega arith }

pub longest : Longest
unfolding longest_content
longest = record {
  none_longer = λ c t.
      let g = (in_bounds c (takes_good c t)).texts in
      let n = nonce_short c.suite in
      let w = written-length c in
      omega (arith, w, n, g.of_nonce, g.of_note, g.of_cipher, g.of_tag);
  content = longest_content;
  taken = good_takes longest_content longest_good;
  as_long = written-length longest_content;
}

-- ---- the cipher's associated data

pub data_tells_row_and_note : DataTellsRowAndNote
unfolding row_data big_endian
data_tells_row_and_note row row' note note' h h' e =
    let a : row / 256 ^ 1 % 256 ≡ row' / 256 ^ 1 % 256 = ap (λ (l : List ℕ). get_or l 0 0) e in
    let b : row / 256 ^ 0 % 256 ≡ row' / 256 ^ 0 % 256 = ap (λ (l : List ℕ). get_or l 1 0) e in
    (omega (arith, a, b), ap (λ (l : List ℕ). drop 2 l) e)

pub sealed_row_comes_back : SealedRowComesBack
sealed_row_comes_back suite row key nonce note message d before after sealed w r o given b k s z wa wz a opens =
    let c : Content = record { suite = suite; row = row; nonce = nonce; note = note; cipher = sealed.buffer; tag = sealed.answer.tag } in
    let g = (reads_what_was_written c d before after w r k wa wz a).0 in
    round_trip suite key nonce (row_data row note) message sealed o given b s z
    (rw (g.suite, g.row, g.nonce, g.note, g.cipher, g.tag) at opens)

-- ---- one outcome

pub one_outcome_of_records : OneOutcomeOfRecords
one_outcome_of_records = (
  λ c d w w' a a'. a ∙ sym a',
  λ row note d w w' a a'. a ∙ sym a',
  λ s at r r' a a'. a ∙ sym a',
  λ s b b' a a'. a ∙ sym a',
)
