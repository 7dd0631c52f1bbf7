-- What an outcome of the writer and of the reader says: a text laid or refused, and where the texts of a written record lie.
-- Assumes nothing.
use mathlib.Core.Path.{◌≡◌, refl, sym, ap, ◌∙◌}
use mathlib.Core.Bool.{Bool, true, false}
use mathlib.Core.List.{List, [], ◌∷◌, ◌++◌, append_assoc}
use Prim.Native.Nat.{ℕ, ◌+◌, ◌-◌, ◌≤◌, ◌<◌}
use native.Mathlib.Nat.{suc-ne-zero, zero-add}
use native.Mathlib.Omega.{arith}
use lib.Dec.{eqb, leb}
use lib.ListN.{length, take, drop}
use lib.Seq.{take_at, drop_at, drop-drop}
use borrow.Author.Tests.{eqb-true, eqb-false, leb-true, leb-false}
use Rattle.octets.specs.Octets.{Bytes, big_endian}
use Rattle.octets.proofs.Parts.{part_bytes}
use Rattle.suites.specs.Suites.{nonce_length}
use Rattle.fields.specs.Fields.{between, field, fields, fields_refusal}
use Rattle.fields.specs.Answers.{part}
use Rattle.record.specs.declared.reader.Record.{Record}
use Rattle.record.specs.HouseRecord.{suite_rule, row_rule, rules, Content, bodies, written, Writing, laid_out, writing, found_at, reading, WriteAllows, ReadAllows}
use Rattle.fields.proofs.Ranges.{both}
use Rattle.fields.proofs.Accepting.{tested}
use Rattle.record.proofs.Bundles.{was_read}
use Rattle.record.proofs.WholeRecord.{Good, row_back, read_back, accepted_record}
use Rattle.record.proofs.Writings.{Fit, fit, refused_out, short_out, done_out, row_length}
use Rattle.promises.specs.Records.{Takes, Gives, InRange}

-- ---- the writer

pub data Outcome (n : ℕ) (text destination : List ℕ) (w : Writing) : Type 0 where
  laid : n ≡ 0 → length text ≤ length destination
      → w ≡ record { answer = record { number = 0; length = length text }; destination = text ++ drop (length text) destination }
      → Outcome n text destination w
  short : n ≡ 0 → length destination < length text
      → w ≡ record { answer = record { number = 24; length = 0 }; destination = destination } → Outcome n text destination w
  bad : (n ≡ 0 → ⊥) → w ≡ record { answer = record { number = n; length = 0 }; destination = destination } → Outcome n text destination w

pub outcome : (n : ℕ) (text destination : List ℕ) (w : Writing) → w ≡ laid_out n text destination → Outcome n text destination w
outcome n text d w e = by (eqb n 0) (leb (length text) (length d)) refl refl
  where
    by : (a b : Bool) → eqb n 0 ≡ a → leb (length text) (length d) ≡ b → Outcome n text d w
    by true true p q =
        let z = eqb-true n 0 p in
        let h = leb-true (length text) (length d) q in
        laid z h (e ∙ sym (done_out n text d z (length text) (text ++ drop (length text) d) refl
        (sym (ap (λ (k : ℕ). text ++ drop k d) (zero-add (length text)))) h))
    by true false p q =
        let z = eqb-true n 0 p in
        let h = leb-false (length text) (length d) q in
        short z h (e ∙ sym (short_out n text d z h))
    by false b p q = let h = eqb-false n 0 p in bad h (e ∙ sym (refused_out n text d n refl h))

module _ (c : Content) where
  pub write_outcome : (d : List ℕ) (w : Writing) → WriteAllows c d w → Outcome (fields_refusal (rules c.suite) (bodies c)) (written c) d w
  unfolding writing
  write_outcome d w e = outcome _ _ d w e

  pub good_takes : Good c → Takes c
  good_takes g = record { row_fits = g.row_fits; done = λ d w h e. by d w h (write_outcome d w e) }
    where
      by : (d : List ℕ) (w : Writing) → length (written c) ≤ length d → Outcome (fields_refusal (rules c.suite) (bodies c)) (written c) d w
          → w.answer.number ≡ 0
      by d w h (laid z k e) = ap (λ (x : Writing). x.answer.number) e
      by d w h (short z k e) = absurd (omega (arith, h, k))
      by d w h (bad z e) = absurd (z g.unrefused)

  -- what was written, with a row of sixteen bits, was good, and lies at the start
  pub done_good : (d : List ℕ) (w : Writing) → WriteAllows c d w → w.answer.number ≡ 0 → c.row < 65536
      → Good c × (take w.answer.length w.destination ≡ written c) × (w.answer.length ≡ length (written c))
  done_good d w a z k = by (write_outcome d w a)
    where
      by : Outcome (fields_refusal (rules c.suite) (bodies c)) (written c) d w
          → Good c × (take w.answer.length w.destination ≡ written c) × (w.answer.length ≡ length (written c))
      by (laid n h e) = (
        record { unrefused = n; row_fits = k },
        rw e (take_at (written c) (drop (length (written c)) d) (length (written c)) refl),
        ap (λ (x : Writing). x.answer.length) e,
      )
      by (short n h e) = absurd (suc-ne-zero 23 (sym (ap (λ (x : Writing). x.answer.number) e) ∙ z))
      by (bad h e) = absurd (h (sym (ap (λ (x : Writing). x.answer.number) e) ∙ z))

  pub takes_good : Takes c → Good c
  takes_good t =
      let w = writing c (written c) in
      let h : length (written c) ≤ length (written c) = omega arith in
      (done_good (written c) w refl (t.done (written c) w h refl) t.row_fits).0

-- ---- the reader

-- a field at a place, its bytes and what comes after it
field_at : (s : List ℕ) (at tag : ℕ) (body more : List ℕ) → drop at s ≡ field tag body ++ more
    → (part s (at + 3) (length body) ≡ body) × (drop (at + 3 + length body) s ≡ more)
unfolding field big_endian
field_at s at tag body more e =
    let f : drop (at + 3) s ≡ body ++ more = sym (drop-drop 3 at s) ∙ ap (λ (l : List ℕ). drop 3 l) e in (
      rw f (take_at body more (length body) refl),
      sym (drop-drop (length body) (at + 3) s) ∙ rw f (drop_at body more (length body) refl),
    )

-- where the texts of a written record lie
pub lies : (s : List ℕ) (at : ℕ) (c : Content) (rest : List ℕ) (r : Record) → r ≡ found_at at c → length c.tag ≡ 16
    → drop at s ≡ written c ++ rest → Gives s c r
unfolding written fields
lies s at c rest r k t e =
    let f₆ = field 6 c.tag ++ [] in
    let f₅ = field 5 c.cipher ++ f₆ in
    let f₄ = field 4 c.note ++ f₅ in
    let f₃ = field 3 c.nonce ++ f₄ in
    let f₂ = field 2 (big_endian 2 c.row) ++ f₃ in
    let s₁ = field_at s at 1 (c.suite ∷ []) (f₂ ++ rest) (e ∙ append_assoc (field 1 (c.suite ∷ [])) f₂ rest) in
    let s₂ = field_at s (at + 3 + 1) 2 (big_endian 2 c.row) (f₃ ++ rest) (s₁.1 ∙ append_assoc (field 2 (big_endian 2 c.row)) f₃ rest) in
    let a₃ : at + 3 + 1 + 3 + length (big_endian 2 c.row) ≡ at + 9 = let l = row_length c.row in omega (arith, l) in
    let e₃ : drop (at + 9) s ≡ field 3 c.nonce ++ (f₄ ++ rest) = rw (← a₃) s₂.1 ∙ append_assoc (field 3 c.nonce) f₄ rest in
    let s₃ = field_at s (at + 9) 3 c.nonce (f₄ ++ rest) e₃ in
    let s₄ = field_at s (at + 9 + 3 + length c.nonce) 4 c.note (f₅ ++ rest) (s₃.1 ∙ append_assoc (field 4 c.note) f₅ rest) in
    let s₅ = field_at s (at + 9 + 3 + length c.nonce + 3 + length c.note) 5 c.cipher (f₆ ++ rest)
    (s₄.1 ∙ append_assoc (field 5 c.cipher) f₆ rest) in
    let s₆ = field_at s (at + 9 + 3 + length c.nonce + 3 + length c.note + 3 + length c.cipher) 6 c.tag ([] ++ rest)
    (s₅.1 ∙ append_assoc (field 6 c.tag) [] rest) in
    let n₃ : at + 12 ≡ at + 9 + 3 = omega arith in
    let n₄ : at + 15 + length c.nonce ≡ at + 9 + 3 + length c.nonce + 3 = omega arith in
    let n₅ : at + 18 + length c.nonce + length c.note ≡ at + 9 + 3 + length c.nonce + 3 + length c.note + 3 = omega arith in
    let n₆ : at + 21 + length c.nonce + length c.note + length c.cipher
    ≡ at + 9 + 3 + length c.nonce + 3 + length c.note + 3 + length c.cipher + 3 = omega arith in
    record {
      number = ap (λ (x : Record). x.number) k;
      suite = ap (λ (x : Record). x.suite) k;
      row = ap (λ (x : Record). x.row) k;
      nonce = rw (k, n₃) s₃.0;
      note = rw (k, n₄) s₄.0;
      cipher = rw (k, n₅) s₅.0;
      tag = rw (k, n₆, ← t) s₆.0;
    }

-- what is written at a place is read there
pub reads_written : (s : List ℕ) (at : ℕ) (c : Content) (rest : List ℕ) (r : Record) → Good c → drop at s ≡ written c ++ rest → ReadAllows s
    at r
    → r ≡ found_at at c
unfolding reading
reads_written s at c rest r g e a = a ∙ rw (e, read_back c rest g)

-- what no refusal says of suite, row and lengths
pub record InBounds (c : Content) : Type 0 where
  pub suite : InRange 4 c.suite
  pub row : InRange 20 c.row
  pub texts : Fit (nonce_length c.suite) c.nonce c.note c.cipher c.tag

between_is : (greatest n : ℕ) → between 1 greatest n ≡ true → InRange greatest n
between_is greatest n e =
    let b = both (leb 1 n) (leb n greatest) e in
    (leb-true 1 n b.0, leb-true n greatest b.1)

pub in_bounds : (c : Content) → Good c → InBounds c
unfolding fields_refusal
in_bounds c g =
    let t = tested suite_rule (c.suite ∷ []) _ g.unrefused in
    let r = tested row_rule (big_endian 2 c.row) _ t.2 in
    record {
      suite = between_is 4 c.suite t.1;
      row = between_is 20 c.row (rw (row_back c.row g.row_fits) at r.1);
      texts = fit (nonce_length c.suite) c.nonce c.note c.cipher c.tag r.2;
    }

-- a record that was read, of bytes: what it gives, and that it was written
pub record Seen (s : List ℕ) (at : ℕ) (r : Record) : Type 0 where
  pub content : Content
  pub rest : List ℕ
  pub is : r ≡ found_at at content
  pub good : Good content
  pub whole : drop at s ≡ written content ++ rest
  pub gives : Gives s content r
  pub within : r.length ≤ length s - at

pub seen : (s : List ℕ) (at : ℕ) (r : Record) → Bytes s → ReadAllows s at r → r.number ≡ 0 → Seen s at r
seen s at r b a z =
    let f = was_read s at r a z in
    let g = accepted_record (drop at s) f.content (drop (at + r.length) s) (part_bytes s at b) f.taken in
    record {
      content = f.content;
      rest = drop (at + r.length) s;
      is = f.is;
      good = g.good;
      whole = g.whole;
      gives = lies s at f.content (drop (at + r.length) s) r f.is (in_bounds f.content g.good).texts.of_tag g.whole;
      within = f.within;
    }
