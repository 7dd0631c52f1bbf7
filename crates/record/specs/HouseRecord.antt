-- The house record, and a bundle of them: document 02, request b. What a field is, and the order of its checks, is in crates/fields/specs/Fields.
-- Assumes nothing.
use Rattle.std.specs.Prelude.{◌≡◌, List, [], ◌∷◌, ◌++◌, ℕ, zero, suc, ◌+◌, eqb, leb, length, drop, get_or}
use Rattle.octets.specs.Octets.{pick, big_endian}
use Rattle.suites.specs.Suites.{nonce_length}
use Rattle.record.specs.declared.writer.Written.{Written}
use Rattle.record.specs.declared.reader.Record.{Record}
use Rattle.record.specs.declared.reader.Bundle.{Bundle}
use Rattle.fields.specs.Fields.{between, number2, Rule, plain, Read, refused, got, and_then, take_fields, fields, fields_refusal}

-- ---- the six fields, ascending

-- the two row bytes as a number
abbrev pub row_of : List ℕ → ℕ
row_of body = number2 (get_or body 0 0) (get_or body 1 0)

-- 1 byte, 1 to 4
abbrev pub suite_rule : Rule
suite_rule = record { tag = 1; least = 1; greatest = 1; in_range = λ body. between 1 4 (get_or body 0 0) }

-- 2 bytes, 1 to 20
abbrev pub row_rule : Rule
row_rule = record { tag = 2; least = 2; greatest = 2; in_range = λ body. between 1 20 (row_of body) }

abbrev pub note_rule : Rule
note_rule = plain 4 0 1024

-- nonce, of the length that the suite has, note, ciphertext and tag
abbrev pub text_rules : ℕ → List Rule
text_rules nonce = plain 3 nonce nonce ∷ note_rule ∷ plain 5 0 4096 ∷ plain 6 16 16 ∷ []

abbrev pub rules : ℕ → List Rule
rules suite = suite_rule ∷ row_rule ∷ text_rules (nonce_length suite)

-- ---- a record's content and its bytes

pub record Content : Type 0 where
  pub suite : ℕ
  pub row : ℕ
  pub nonce : List ℕ
  pub note : List ℕ
  pub cipher : List ℕ
  pub tag : List ℕ

abbrev pub bodies : Content → List (List ℕ)
bodies c = (c.suite ∷ []) ∷ big_endian 2 c.row ∷ c.nonce ∷ c.note ∷ c.cipher ∷ c.tag ∷ []

unfoldable pub written : Content → List ℕ
written c = fields (rules c.suite) (bodies c)

-- a bundle: records with nothing between them
unfoldable pub bundled : List Content → List ℕ
bundled [] = []
bundled (c ∷ contents) = written c ++ bundled contents

-- what the cipher takes as associated data: the two row bytes, then the note
unfoldable pub row_data : ℕ → List ℕ → List ℕ
row_data row note = big_endian 2 row ++ note

-- ---- the reader

abbrev pub content_of : List (List ℕ) → Content
content_of found = record {
  suite = get_or (get_or found 0 []) 0 0;
  row = row_of (get_or found 1 []);
  nonce = get_or found 2 [];
  note = get_or found 3 [];
  cipher = get_or found 4 [];
  tag = get_or found 5 [];
}

-- the record that the bytes left begin with. Its suite, which decides the nonce's length, is its fourth byte
unfoldable pub take_record : List ℕ → Read Content
take_record s = and_then (take_fields (rules (get_or s 3 0)) s) (λ found left. got (content_of found) left)

-- at most so many records, to the last byte; bytes after the last one allowed 15
unfoldable pub take_records : ℕ → List ℕ → Read (List Content)
take_records zero s = pick (eqb (length s) 0) (got [] s) (refused 15)
take_records (suc allowed) s =
    pick (eqb (length s) 0) (got [] s)
    (and_then (take_record s) (λ c left. and_then (take_records allowed left) (λ contents after. got (c ∷ contents) after)))

-- ---- what the reader answers

-- a number and no record
abbrev pub no_record : ℕ → Record
no_record number = record {
  number = number;
  suite = 0;
  row = 0;
  nonce = 0;
  nonce_length = 0;
  note = 0;
  note_length = 0;
  cipher = 0;
  cipher_length = 0;
  tag = 0;
  length = 0;
}

-- each text lies after its field's three bytes of head, from the record's place on: the suite takes 4 bytes and the row 5
abbrev pub found_at : ℕ → Content → Record
found_at at c = record {
  number = 0;
  suite = c.suite;
  row = c.row;
  nonce = at + 12;
  nonce_length = length c.nonce;
  note = at + 15 + length c.nonce;
  note_length = length c.note;
  cipher = at + 18 + length c.nonce + length c.note;
  cipher_length = length c.cipher;
  tag = at + 21 + length c.nonce + length c.note + length c.cipher;
  length = length (written c);
}

abbrev pub answer_at : ℕ → Read Content → Record
answer_at at (refused number) = no_record number
answer_at at (got c left) = found_at at c

-- one record at a place
unfoldable pub reading : List ℕ → ℕ → Record
reading s at = answer_at at (take_record (drop at s))

-- the bundle with its count
abbrev pub counted : Read (List Content) → Bundle
counted (refused number) = record { number = number; records = 0 }
counted (got contents left) = record { number = 0; records = length contents }

unfoldable pub bundle_reading : List ℕ → Bundle
bundle_reading s = counted (take_records 64 s)

-- ---- what the writer answers

-- an answer, and the destination at the end
pub record Writing : Type 0 where
  pub answer : Written
  pub destination : List ℕ

-- what refuses the fields, 12 or 13, and last 24 where the destination has too little room; or 0
abbrev pub write_refusal : ℕ → List ℕ → ℕ → ℕ
write_refusal refusal text room = pick (eqb refusal 0) (pick (leb (length text) room) 0 24) refusal

-- a text laid at the start of the destination, the bytes after it as they stood; or refused, and nothing written
abbrev pub laid_out : ℕ → List ℕ → List ℕ → Writing
laid_out refusal text destination =
    pick (eqb (write_refusal refusal text (length destination)) 0)
    (record { answer = record { number = 0; length = length text }; destination = text ++ drop (length text) destination })
    (record { answer = record { number = write_refusal refusal text (length destination); length = 0 }; destination = destination })

unfoldable pub writing : Content → List ℕ → Writing
writing c destination = laid_out (fields_refusal (rules c.suite) (bodies c)) (written c) destination

-- the associated data of a sealed row: the fields that it is made of have their numbers here too
unfoldable pub data_writing : ℕ → List ℕ → List ℕ → Writing
data_writing row note destination =
    laid_out (fields_refusal (row_rule ∷ note_rule ∷ []) (big_endian 2 row ∷ note ∷ [])) (row_data row note) destination

-- ---- the contracts of `write`, `write_row_data`, `read` and `read_bundle`: an outcome is allowed where it is the definition's

abbrev pub WriteAllows : Content → List ℕ → Writing → Type 0
WriteAllows c destination outcome = outcome ≡ writing c destination

abbrev pub RowDataAllows : ℕ → List ℕ → List ℕ → Writing → Type 0
RowDataAllows row note destination outcome = outcome ≡ data_writing row note destination

abbrev pub ReadAllows : List ℕ → ℕ → Record → Type 0
ReadAllows s at outcome = outcome ≡ reading s at

abbrev pub BundleAllows : List ℕ → Bundle → Type 0
BundleAllows s outcome = outcome ≡ bundle_reading s
