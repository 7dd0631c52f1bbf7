-- A record at a place: each return of `read_left`.
-- Assumes nothing.
use mathlib.Core.Path.{◌≡◌, refl, sym, ap, ◌∙◌, subst}
use mathlib.Core.List.{List, [], ◌∷◌, ◌++◌}
use Prim.Native.Nat.{ℕ, ◌+◌, ◌-◌, ◌≤◌, ◌<◌}
use native.Mathlib.Omega.{arith}
use lib.ListN.{length, take, drop, get_or, drop_of_length-le}
use Rattle.octets.proofs.Parts.{rest_is}
use Rattle.suites.specs.Suites.{nonce_length}
use Rattle.record.specs.declared.reader.Record.{Record}
use Rattle.record.specs.declared.reader.Texts.{Texts}
use Rattle.fields.specs.Fields.{number2, Read, refused, got, and_then, take_field, take_fields}
use Rattle.record.specs.HouseRecord.{suite_rule, row_rule, text_rules, Content, content_of, take_record, no_record, found_at, answer_at, reading}
use Rattle.fields.specs.Answers.{part}
use Rattle.record.specs.Parts.{HeadGot, TextsGot}
use Rattle.fields.proofs.FieldAt.{part_at, part_length}
use Rattle.fields.proofs.Readings.{fields_join}
use Rattle.record.proofs.Sizes.{written-length}

-- what is told of a content, in numbers
pub told_of : (at : ℕ) (c : Content) (suite row nonce note cipher n₁ n₂ n₃ n₄ bytes : ℕ) → c.suite ≡ suite → c.row ≡ row
    → length c.nonce ≡ nonce → length c.note ≡ note → length c.cipher ≡ cipher → length c.tag ≡ 16 → n₁ ≡ at + 12
    → n₂ ≡ at + 15 + nonce → n₃ ≡ at + 18 + nonce + note → n₄ ≡ at + 21 + nonce + note + cipher → bytes ≡ 37 + nonce + note + cipher
    → ◌≡◌ {A = Record}
    (record {
      number = 0;
      suite = suite;
      row = row;
      nonce = n₁;
      nonce_length = nonce;
      note = n₂;
      note_length = note;
      cipher = n₃;
      cipher_length = cipher;
      tag = n₄;
      length = bytes;
    })
    (found_at at c)
told_of at c suite row nonce note cipher n₁ n₂ n₃ n₄ bytes e₁ e₂ e₃ e₄ e₅ e₆ a₁ a₂ a₃ a₄ b =
    let w : bytes ≡ 21 + length c.nonce + length c.note + length c.cipher + length c.tag = omega arith in
    rw (written-length c, ← w, e₁, e₂, e₃, e₄, e₅, a₁, a₂, a₃, a₄)

module _ (s : List ℕ) where
  all_fields : (x : Read (List (List ℕ))) → take_fields (suite_rule ∷ row_rule ∷ []) s ≡ x
      → take_record s
      ≡ and_then
      (and_then x (λ bodies left. and_then (take_fields (text_rules (nonce_length (get_or s 3 0))) left) (λ more after. got (bodies ++ more) after)))
      (λ found left. got (content_of found) left)
  unfolding take_record
  all_fields x e = rw (fields_join (suite_rule ∷ row_rule ∷ []) (text_rules (nonce_length (get_or s 3 0))) s, e)

  pub head_refused : (n : ℕ) → take_fields (suite_rule ∷ row_rule ∷ []) s ≡ refused n → take_record s ≡ refused n
  head_refused n e = all_fields (refused n) e

  module _ (h : HeadGot s) (m : ℕ) (of-suite : m ≡ nonce_length (get_or s 3 0)) where
    texts : (x : Read (List (List ℕ))) → take_fields (text_rules (nonce_length (get_or s 3 0))) (drop 9 s) ≡ x
        → take_record s ≡ and_then x (λ more after. got (content_of (part s 3 1 ∷ part s 7 2 ∷ more)) after)
    texts x e = all_fields (got (part s 3 1 ∷ part s 7 2 ∷ []) (drop 9 s)) h.given ∙ rw e (end x)
      where
        end : (x : Read (List (List ℕ)))
            → and_then (and_then x (λ more after. got ((part s 3 1 ∷ part s 7 2 ∷ []) ++ more) after))
            (λ found left. got (content_of found) left)
            ≡ and_then x (λ more after. got (content_of (part s 3 1 ∷ part s 7 2 ∷ more)) after)
        end (refused number) = refl
        end (got more after) = refl

    pub texts_refused : (n : ℕ) → take_fields (text_rules m) (take (length s - 9) (drop 9 s)) ≡ refused n → take_record s ≡ refused n
    texts_refused n e = texts (refused n) (rw (rest_is s 9, of-suite) at e)

    module _ (t : Texts) (lent : TextsGot m (take (length s - 9) (drop 9 s)) t) where
      g : TextsGot (nonce_length (get_or s 3 0)) (drop 9 s) t
      g = subst (λ (l : List ℕ). TextsGot (nonce_length (get_or s 3 0)) l t) (rest_is s 9)
          (subst (λ (k : ℕ). TextsGot k (take (length s - 9) (drop 9 s)) t) of-suite lent)

      pub record_read : (at row n₁ n₂ n₃ n₄ bytes : ℕ) → row ≡ number2 (get_or s 7 0) (get_or s 8 0) → n₁ ≡ at + 12
          → n₂ ≡ at + 15 + m → n₃ ≡ at + 18 + m + t.note → n₄ ≡ at + 21 + m + t.note + t.cipher
          → bytes ≡ 37 + m + t.note + t.cipher
          → ◌≡◌ {A = Record}
          (record {
            number = 0;
            suite = get_or s 3 0;
            row = row;
            nonce = n₁;
            nonce_length = m;
            note = n₂;
            note_length = t.note;
            cipher = n₃;
            cipher_length = t.cipher;
            tag = n₄;
            length = bytes;
          })
          (answer_at at (take_record s))
      record_read at row n₁ n₂ n₃ n₄ bytes f a₁ a₂ a₃ a₄ b =
          let w = g.within in
          let k = nonce_length (get_or s 3 0) in
          told_of at _ (get_or s 3 0) row m t.note t.cipher n₁ n₂ n₃ n₄ bytes (part_at s 3 1 0 (omega arith))
          (rw (f, part_at s 7 2 0 (omega arith), part_at s 7 2 1 (omega arith)))
          (rw of-suite (part_length (drop 9 s) 3 k (omega (arith, w)))) (part_length (drop 9 s) (6 + k) t.note (omega (arith, w)))
          (part_length (drop 9 s) (9 + k + t.note) t.cipher (omega (arith, w)))
          (part_length (drop 9 s) (12 + k + t.note + t.cipher) 16 (omega (arith, w))) a₁ a₂ a₃ a₄ b
          ∙ sym (ap (λ (x : Read Content). answer_at at x) (texts _ g.given))

-- past the end there are no bytes left
pub past_end : (s : List ℕ) (at : ℕ) → length s < at → no_record 10 ≡ reading s at
unfolding reading take_record take_fields take_field
past_end s at h = let k : length s ≤ at = omega arith in rw (drop_of_length-le s k)
