-- The proofs of the statements of specs/Records on reading and writing, of one record and of a bundle.
-- Assumes nothing.
use mathlib.Core.Path.{◌≡◌, refl, sym, ap, ◌∙◌, subst}
use mathlib.Core.Bool.{Bool, true, false}
use mathlib.Core.List.{List, [], ◌∷◌, ◌++◌, append_assoc, append-nil}
use Prim.Native.Nat.{ℕ, zero, suc, ◌+◌, ◌-◌, ◌*◌, ◌≤◌, ◌<◌}
use native.Mathlib.Nat.{suc-ne-zero, zero-add}
use native.Mathlib.Omega.{arith}
use lib.Dec.{eqb}
use lib.ListN.{length, take, drop, get_or, length-append}
use lib.Seq.{take_at, drop_at, get_or-drop}
use borrow.Author.Tests.{eqb-true, ne_eqb}
use Rattle.octets.specs.Octets.{Bytes, pick, big_endian}
use Rattle.fields.specs.Fields.{Read, refused, got, and_then, field, fields, fields_refusal}
use Rattle.fields.proofs.Accepting.{through, got_value, refused_not_got, rest_bytes, NotZero, pick_not_zero, then_not_zero}
use Rattle.record.specs.declared.reader.Record.{Record}
use Rattle.record.specs.declared.reader.Bundle.{Bundle}
use Rattle.record.specs.HouseRecord.{rules, Content, bodies, written, bundled, Writing, take_record, take_records, counted, bundle_reading, WriteAllows}
use Rattle.fields.proofs.Readings.{then_got}
use Rattle.record.proofs.Bundles.{was_refused, no_bytes}
use Rattle.record.proofs.Sizes.{written-length}
use Rattle.record.proofs.WholeRecord.{Good, read_back, accepted_record, record_not_zero}
use Rattle.promises.specs.Records.{Takes, Gives, content_in, ReadsWhatWasWritten, Rewritten, WrittenIsWhatIsAccepted, NoTwoWays, RowReadIsTheRowWritten, AllTaken, ReadsTheBundleThatWasWritten, WasWritten, WrittenIsTheBundleThatIsAccepted, NoTwoWaysForABundle, BytesAfterRecord64, BundleRefusedByItsRecord}
use Rattle.promises.proofs.RecordViews.{Outcome, laid, short, bad, write_outcome, good_takes, takes_good, done_good, lies, reads_written, in_bounds, seen}

-- ---- one record

pub reads_what_was_written : ReadsWhatWasWritten
reads_what_was_written c d before after w r k a z e =
    let g = done_good c d w a z k in
    let s = before ++ (take w.answer.length w.destination ++ after) in
    let l : drop (length before) s ≡ written c ++ after =
    drop_at before (take w.answer.length w.destination ++ after) (length before) refl
    ∙ ap (λ (x : List ℕ). x ++ after) g.1 in
    let i = reads_written s (length before) c after r g.0 l e in
    (lies s (length before) c after r i (in_bounds c g.0).texts.of_tag l, ap (λ (x : Record). x.length) i ∙ sym g.2)

same_content : (s : List ℕ) (r : Record) (c : Content) → Gives s c r → content_in s r ≡ c
same_content s r c g = rw (g.suite, g.row, g.nonce, g.note, g.cipher, g.tag)

pub written_is_what_is_accepted : WrittenIsWhatIsAccepted
written_is_what_is_accepted s at r d w b a z wa room =
    let f = seen s at r b a z in
    by f.content f.rest (ap (λ (x : Record). x.length) f.is) f.good f.whole
    (write_outcome f.content d w (subst (λ (x : Content). WriteAllows x d w) (same_content s r f.content f.gives) wa))
  where
    by : (c : Content) (rest : List ℕ) → r.length ≡ length (written c) → Good c → drop at s ≡ written c ++ rest
        → Outcome (fields_refusal (rules c.suite) (bodies c)) (written c) d w → Rewritten s at r w
    by c rest n g e (laid k h q) = record {
      number = ap (λ (x : Writing). x.answer.number) q;
      bytes = ap (λ (x : Writing). x.answer.length) q ∙ sym n;
      same =
          rw (q, n, take_at (written c) (drop (length (written c)) d) (length (written c)) refl)
          (sym (rw e (take_at (written c) rest (length (written c)) refl)));
    }
    by c rest n g e (short k h q) = absurd (omega (arith, n, h, room))
    by c rest n g e (bad h q) = absurd (h g.unrefused)

pub no_two_ways : NoTwoWays
no_two_ways c c' t t' e =
    got_value (sym (read_back c [] (takes_good c t)) ∙ ap (λ (s : List ℕ). take_record (s ++ [])) e ∙ read_back c' [] (takes_good c' t'))

-- ---- the row

-- the two row bytes of a written record
row_bytes : (c : Content) (rest : List ℕ) → c.row < 65536
    → get_or (written c ++ rest) 7 0 * 256 + get_or (written c ++ rest) 8 0 ≡ c.row
unfolding written fields field big_endian
row_bytes c rest h = omega arith

pub row_read_is_the_row_written : RowReadIsTheRowWritten
row_read_is_the_row_written = (
  λ s at r b a z.
      let f = seen s at r b a z in
      let g = in_bounds f.content f.good in
      let e : f.content.row ≡ r.row = sym f.gives.row in
      record {
        from_1 = omega (arith, e, g.row.0);
        to_20 = omega (arith, e, g.row.1);
        bytes =
            rw (← get_or-drop at s 7 0, ← get_or-drop at s 8 0, f.whole) (row_bytes f.content f.rest f.good.row_fits) ∙ e;
      },
  λ c d before after w r k a z e. (reads_what_was_written c d before after w r k a z e).0.row,
)

-- ---- a bundle

some_bytes : (c : Content) (rest : List ℕ) → eqb (length (written c ++ rest)) 0 ≡ false
some_bytes c rest =
    let n = length-append (written c) rest in
    let l = written-length c in
    ne_eqb (length (written c ++ rest)) 0 (λ z. omega (arith, n, l, z))

-- contents that are taken, and then other bytes
pub bundle_then : (contents : List Content) (more : ℕ) (rest : List ℕ) → AllTaken contents
    → take_records (length contents + more) (bundled contents ++ rest)
    ≡ and_then (take_records more rest) (λ others after. got (contents ++ others) after)
unfolding take_records bundled
bundle_then [] more rest t = rw (zero-add more) (sym (then_got (take_records more rest)))
bundle_then (c ∷ contents) more rest t =
    let n : length (c ∷ contents) + more ≡ suc (length contents + more) = omega arith in
    rw (
      n,
      append_assoc (written c) (bundled contents) rest,
      some_bytes c (bundled contents ++ rest),
      read_back c (bundled contents ++ rest)
          (takes_good c t.0),
      bundle_then contents more rest t.1,
    )
    (again (take_records more rest))
  where
    again : (x : Read (List Content))
        → and_then (and_then x (λ others after. got (contents ++ others) after)) (λ all after. got (c ∷ all) after)
        ≡ and_then x (λ others after. got (c ∷ (contents ++ others)) after)
    again (refused n) = refl
    again (got others after) = refl

-- with so many records allowed at least
pub bundle_back : (contents : List Content) (allowed : ℕ) → AllTaken contents → length contents ≤ allowed
    → take_records allowed (bundled contents) ≡ got contents []
bundle_back contents allowed t h =
    let n : length contents + (allowed - length contents) ≡ allowed = omega arith in
    let e = bundle_then contents (allowed - length contents) [] t in
    (rw (n, append-nil (bundled contents), no_bytes (allowed - length contents)) at e) ∙ ap (λ (l : List Content). got l [])
    (append-nil contents)

bundled_join : (before after : List Content) → bundled (before ++ after) ≡ bundled before ++ bundled after
unfolding bundled
bundled_join [] after = refl
bundled_join (c ∷ before) after = rw (bundled_join before after) (sym (append_assoc (written c) (bundled before) (bundled after)))

-- what is taken in the middle of a list
middle : (before : List Content) (c : Content) (after : List Content) → AllTaken (before ++ (c ∷ after)) → Takes c
middle [] c after t = t.0
middle (x ∷ before) c after t = middle before c after t.1

pub reads_the_bundle_that_was_written : ReadsTheBundleThatWasWritten
unfolding bundle_reading bundled
reads_the_bundle_that_was_written contents b t h e = (
  e ∙ ap counted (bundle_back contents 64 t (omega (arith, h))),
  λ before after c r q a.
      let g = takes_good c (middle before c after (subst AllTaken q t)) in
      let l : drop (length (bundled before)) (bundled contents) ≡ written c ++ bundled after =
      rw (q, bundled_join before (c ∷ after)) (drop_at (bundled before) (written c ++ bundled after) (length (bundled before)) refl) in
      let i = reads_written (bundled contents) (length (bundled before)) c (bundled after) r g l a in (
        lies (bundled contents) (length (bundled before)) c (bundled after) r i (in_bounds c g).texts.of_tag l,
        ap
            (λ (x : Record). x.length) i,
      ),
)

none_allowed : (x : ℕ) (rest : List ℕ) → take_records 0 (x ∷ rest) ≡ refused 15
unfolding take_records
none_allowed x rest = simp (ne_eqb (length (x ∷ rest)) 0 (suc-ne-zero (length rest)))

pub bytes_after_record_64 : BytesAfterRecord64
unfolding bundle_reading
bytes_after_record_64 contents x rest b t n e =
    let k : length contents + 0 ≡ 64 = omega (arith, n) in
    let m = bundle_then contents 0 (x ∷ rest) t in
    e ∙ ap counted (rw (k, none_allowed x rest) at m)

some_left : (n x : ℕ) (rest : List ℕ) (m : ℕ) → take_record (x ∷ rest) ≡ refused m → take_records (suc n) (x ∷ rest) ≡ refused m
unfolding take_records
some_left n x rest m e = simp (ne_eqb (length (x ∷ rest)) 0 (suc-ne-zero (length rest)), e)

pub bundle_refused_by_its_record : BundleRefusedByItsRecord
unfolding bundle_reading
bundle_refused_by_its_record contents x rest r b t n a h e =
    let s = bundled contents ++ (x ∷ rest) in
    let left : drop (length (bundled contents)) s ≡ x ∷ rest = drop_at (bundled contents) (x ∷ rest) (length (bundled contents)) refl in
    let q : take_record (x ∷ rest) ≡ refused r.number = rw left at (was_refused s (length (bundled contents)) r a h) in
    let k : length contents + suc (63 - length contents) ≡ 64 = omega (arith, n) in
    let m = bundle_then contents (suc (63 - length contents)) (x ∷ rest) t in
    e ∙ ap counted (rw (k, some_left (63 - length contents) x rest r.number q) at m)

pub no_two_ways_for_a_bundle : NoTwoWaysForABundle
no_two_ways_for_a_bundle contents contents' t t' e =
    let n = length contents + length contents' in
    got_value
    (sym (bundle_back contents n t (omega arith)) ∙ ap (λ (s : List ℕ). take_records n s) e ∙ bundle_back contents' n t' (omega arith))

-- ---- a bundle that is accepted

records_not_zero : (allowed : ℕ) (s : List ℕ) → NotZero (take_records allowed s)
unfolding take_records
records_not_zero zero s = pick_not_zero (eqb (length s) 0) (got [] s) (refused 15) tt (suc-ne-zero 14)
records_not_zero (suc allowed) s =
    pick_not_zero (eqb (length s) 0) (got [] s) _ tt
    (then_not_zero (take_record s) _ (record_not_zero s)
    (λ c left. then_not_zero (take_records allowed left) _ (records_not_zero allowed left) (λ others after. tt)))

empty : (s : List ℕ) → eqb (length s) 0 ≡ true → s ≡ []
empty [] e = refl
empty (x ∷ s) e = absurd (suc-ne-zero (length s) (eqb-true (length (x ∷ s)) 0 e))

record Kept (allowed : ℕ) (s : List ℕ) (contents : List Content) : Type 0 where
  pub taken : AllTaken contents
  pub same : s ≡ bundled contents
  pub few : length contents ≤ allowed

kept_none : (allowed : ℕ) (s : List ℕ) (contents : List Content) (rest : List ℕ) → eqb (length s) 0 ≡ true → got [] s ≡ got contents rest
    → Kept allowed s contents
unfolding bundled
kept_none allowed s contents rest z e =
    subst (λ (l : List Content). Kept allowed s l) (got_value e) (record { taken = tt; same = empty s z; few = omega arith })

kept_one : (allowed : ℕ) (s : List ℕ) (c : Content) (left : List ℕ) (others contents : List Content) → s ≡ written c ++ left → Good c
    → Kept allowed left others → c ∷ others ≡ contents → Kept (suc allowed) s contents
unfolding bundled
kept_one allowed s c left others contents w g k e =
    subst (λ (l : List Content). Kept (suc allowed) s l) e
    (record {
      taken = (good_takes c g, k.taken);
      same = w ∙ ap (λ (l : List ℕ). written c ++ l) k.same;
      few = let f = k.few in omega
          (arith, f);
    })

kept : (allowed : ℕ) (s : List ℕ) (contents : List Content) (rest : List ℕ) → Bytes s → take_records allowed s ≡ got contents rest
    → Kept allowed s contents
unfolding take_records
kept zero s contents rest b e = by (eqb (length s) 0) refl e
  where
    by : (z : Bool) → eqb (length s) 0 ≡ z → pick z (got [] s) (refused 15) ≡ got contents rest → Kept zero s contents
    by true z e = kept_none zero s contents rest z e
    by false z e = absurd (refused_not_got e)
kept (suc allowed) s contents rest b e = by (λ left others after h q. kept allowed left others after h q) (eqb (length s) 0) refl e
  where
    by : ((left : List ℕ) (others : List Content) (after : List ℕ) → Bytes left → take_records allowed left ≡ got others after → Kept allowed
        left others)
        → (z : Bool) → eqb (length s) 0 ≡ z
        → pick z (got [] s) (and_then (take_record s) (λ c left. and_then (take_records allowed left) (λ others after. got (c ∷ others) after)))
        ≡ got contents rest
        → Kept (suc allowed) s contents
    by again true z e = kept_none (suc allowed) s contents rest z e
    by again false z e =
        let x = through (take_record s) _ e in
        let y = through (take_records allowed x.between) _ x.got_then in
        let a = accepted_record s x.first x.between b x.got_first in
        kept_one allowed s x.first x.between y.first contents a.whole a.good
        (again x.between y.first y.between (rest_bytes (written x.first) x.between (subst Bytes a.whole b)) y.got_first)
        (got_value y.got_then)

pub written_is_the_bundle_that_is_accepted : WrittenIsTheBundleThatIsAccepted
unfolding bundle_reading
written_is_the_bundle_that_is_accepted s b h e z = by (take_records 64 s) refl e
  where
    by : (x : Read (List Content)) → take_records 64 s ≡ x → b ≡ counted x → WasWritten s b
    by (refused n) q k =
        let m : n ≡ 0 → ⊥ = subst (λ (y : Read (List Content)). NotZero y) q (records_not_zero 64 s) in
        absurd (m (sym (ap (λ (y : Bundle). y.number) k) ∙ z))
    by (got contents left) q k =
        let f = kept 64 s contents left h q in
        let n = ap (λ (y : Bundle). y.records) k in
        record { contents = contents; taken = f.taken; same = f.same; counted = sym n; few = rw n f.few }
