-- What the reader's routines answer on the way to a record, as readings of the bytes left: where the parts lie, or document 02's number.
-- Assumes nothing.
use Rattle.std.specs.Prelude.{◌≡◌, List, [], ◌∷◌, ℕ, ◌+◌, ◌≤◌, length, drop, Result, MatchResult}
use Rattle.fields.specs.declared.Refused.{Refused}
use Rattle.fields.specs.Fields.{take_fields, got, refused}
use Rattle.fields.specs.Answers.{number_of, part}
use Rattle.record.specs.declared.reader.Record.{Record}
use Rattle.record.specs.declared.reader.Texts.{Texts}
use Rattle.record.specs.HouseRecord.{suite_rule, row_rule, text_rules, take_record, answer_at}

-- the fields of suite and row
pub record HeadGot (s : List ℕ) : Type 0 where
  pub given : take_fields (suite_rule ∷ row_rule ∷ []) s ≡ got (part s 3 1 ∷ part s 7 2 ∷ []) (drop 9 s)
  pub within : 9 ≤ length s

abbrev pub HeadRead : List ℕ → Result Unit Refused → Type 0
HeadRead s r = MatchResult r (λ done. HeadGot s) (λ e. take_fields (suite_rule ∷ row_rule ∷ []) s ≡ refused (number_of e))

-- the fields of nonce, note, ciphertext and tag
pub record TextsGot (nonce : ℕ) (s : List ℕ) (t : Texts) : Type 0 where
  pub given : take_fields (text_rules nonce) s
      ≡ got
      (part s 3 nonce
      ∷ part s (6 + nonce) t.note
      ∷ part s (9 + nonce + t.note) t.cipher
      ∷ part s (12 + nonce + t.note + t.cipher) 16
      ∷ [])
      (drop (28 + nonce + t.note + t.cipher) s)
  pub within : 28 + nonce + t.note + t.cipher ≤ length s

abbrev pub TextsRead : ℕ → List ℕ → Result Texts Refused → Type 0
TextsRead nonce s r = MatchResult r (TextsGot nonce s) (λ e. take_fields (text_rules nonce) s ≡ refused (number_of e))

-- a record at a place
abbrev pub RecordRead : ℕ → List ℕ → Result Record Refused → Type 0
RecordRead at s r =
    MatchResult r (λ found. (found ≡ answer_at at (take_record s)) × (found.number ≡ 0)) (λ e. take_record s ≡ refused (number_of e))
