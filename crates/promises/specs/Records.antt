-- What the house record promises: document 02, request b. Every outcome that the contracts of `write`, `write_row_data`, `read` and
-- `read_bundle` allow is meant: `WriteAllows`, `RowDataAllows`, `ReadAllows` and `BundleAllows` are those contracts
-- (crates/record/specs/HouseRecord). The proofs are in proofs/.
-- Assumes nothing.
use Rattle.std.specs.Prelude.{◌≡◌, ◌⊎◌, true, false, List, [], ◌∷◌, ◌++◌, ℕ, ◌+◌, ◌*◌, ◌≤◌, ◌<◌, length, take, drop, get_or}
use Rattle.octets.specs.Octets.{Bytes}
use Rattle.suites.specs.Suites.{nonce_length}
use Rattle.deoxys.specs.Entry.{Sealing, Opening, SealAllows, OpenAllows}
use Rattle.fields.specs.Fields.{Rule, refused, got, told, take_field, fields, fields_refusal}
use Rattle.fields.specs.Answers.{part}
use Rattle.record.specs.declared.reader.Record.{Record}
use Rattle.record.specs.declared.reader.Bundle.{Bundle}
use Rattle.record.specs.HouseRecord.{rules, Content, written, bundled, row_data, Writing, no_record}
use Rattle.record.specs.HouseRecord.{WriteAllows, RowDataAllows, ReadAllows, BundleAllows}
use Rattle.promises.specs.Statements.{Given, Returned}

-- ---- one record, both ways

-- the writer takes this content: into any destination with room for it
pub record Takes (c : Content) : Type 0 where
  pub row_fits : c.row < 65536
  pub done : (destination : List ℕ) (w : Writing) → length (written c) ≤ length destination → WriteAllows c destination w
      → w.answer.number ≡ 0

-- the reader gives this content: suite and row, and the texts as they lie in the bytes at the places that it tells
pub record Gives (s : List ℕ) (c : Content) (r : Record) : Type 0 where
  pub number : r.number ≡ 0
  pub suite : r.suite ≡ c.suite
  pub row : r.row ≡ c.row
  pub nonce : part s r.nonce r.nonce_length ≡ c.nonce
  pub note : part s r.note r.note_length ≡ c.note
  pub cipher : part s r.cipher r.cipher_length ≡ c.cipher
  pub tag : part s r.tag 16 ≡ c.tag

-- the content that the reader gives
abbrev pub content_in : List ℕ → Record → Content
content_in s r = record {
  suite = r.suite;
  row = r.row;
  nonce = part s r.nonce r.nonce_length;
  note = part s r.note r.note_length;
  cipher = part s r.cipher r.cipher_length;
  tag = part s r.tag 16;
}

-- Reading what was written gives it back: what the writer laid down, at any place, with any bytes before and after it.
abbrev pub ReadsWhatWasWritten : Type 0
ReadsWhatWasWritten = (c : Content) (destination before after : List ℕ) (w : Writing) (r : Record)
    → c.row < 65536 → WriteAllows c destination w → w.answer.number ≡ 0
    → ReadAllows (before ++ (take w.answer.length w.destination ++ after)) (length before) r
    → Gives (before ++ (take w.answer.length w.destination ++ after)) c r × (r.length ≡ w.answer.length)

-- Whatever is accepted is what the writer writes for the content that was given, byte for byte.
pub record Rewritten (s : List ℕ) (at : ℕ) (r : Record) (w : Writing) : Type 0 where
  pub number : w.answer.number ≡ 0
  pub bytes : w.answer.length ≡ r.length
  pub same : take r.length w.destination ≡ part s at r.length

abbrev pub WrittenIsWhatIsAccepted : Type 0
WrittenIsWhatIsAccepted = (s : List ℕ) (at : ℕ) (r : Record) (destination : List ℕ) (w : Writing)
    → Bytes s → ReadAllows s at r → r.number ≡ 0 → WriteAllows (content_in s r) destination w → r.length ≤ length destination
    → Rewritten s at r w

-- Two contents with the same bytes are equal.
abbrev pub NoTwoWays : Type 0
NoTwoWays = (c c' : Content) → Takes c → Takes c' → written c ≡ written c' → c ≡ c'

-- ---- the row: the recall's sentence

-- The row that is read is the row that was written, and is from 1 to 20; in the file it is two bytes, the higher first.
pub record RowRead (s : List ℕ) (at : ℕ) (r : Record) : Type 0 where
  pub from_1 : 1 ≤ r.row
  pub to_20 : r.row ≤ 20
  pub bytes : get_or s (at + 7) 0 * 256 + get_or s (at + 8) 0 ≡ r.row

abbrev pub RowReadIsTheRowWritten : Type 0
RowReadIsTheRowWritten =
    ((s : List ℕ) (at : ℕ) (r : Record) → Bytes s → ReadAllows s at r → r.number ≡ 0 → RowRead s at r)
    × ((c : Content) (destination before after : List ℕ) (w : Writing) (r : Record)
    → c.row < 65536 → WriteAllows c destination w → w.answer.number ≡ 0
    → ReadAllows (before ++ (take w.answer.length w.destination ++ after)) (length before) r
    → r.row ≡ c.row)

-- ---- a bundle, both ways

abbrev pub AllTaken : List Content → Type 0
AllTaken [] = Unit {0}
AllTaken (c ∷ contents) = Takes c × AllTaken contents

-- Reading a bundle of 0 to 64 records that the writer takes gives their count, and reading at each record's place gives that record.
abbrev pub ReadsTheBundleThatWasWritten : Type 0
ReadsTheBundleThatWasWritten = (contents : List Content) (b : Bundle) → AllTaken contents → length contents ≤ 64
    → BundleAllows (bundled contents) b
    → (b ≡ record { number = 0; records = length contents })
    × ((before after : List Content) (c : Content) (r : Record) → contents ≡ before ++ (c ∷ after)
    → ReadAllows (bundled contents) (length (bundled before)) r
    → Gives (bundled contents) c r × (r.length ≡ length (written c)))

-- A bundle that is accepted is what the writer writes for 0 to 64 contents, as many as were counted.
pub record WasWritten (s : List ℕ) (b : Bundle) : Type 0 where
  pub contents : List Content
  pub taken : AllTaken contents
  pub same : s ≡ bundled contents
  pub counted : length contents ≡ b.records
  pub few : b.records ≤ 64

abbrev pub WrittenIsTheBundleThatIsAccepted : Type 0
WrittenIsTheBundleThatIsAccepted = (s : List ℕ) (b : Bundle) → Bytes s → BundleAllows s b → b.number ≡ 0 → WasWritten s b

abbrev pub NoTwoWaysForABundle : Type 0
NoTwoWaysForABundle = (contents contents' : List Content) → AllTaken contents → AllTaken contents'
    → bundled contents ≡ bundled contents' → contents ≡ contents'

-- Bytes after record 64 are 15, whatever they are.
abbrev pub BytesAfterRecord64 : Type 0
BytesAfterRecord64 = (contents : List Content) (x : ℕ) (rest : List ℕ) (b : Bundle) → AllTaken contents → length contents ≡ 64
    → BundleAllows (bundled contents ++ (x ∷ rest)) b → b ≡ record { number = 15; records = 0 }

-- Where a record in a bundle can't be read, with fewer than 64 good ones before it, its number is the bundle's.
abbrev pub BundleRefusedByItsRecord : Type 0
BundleRefusedByItsRecord = (contents : List Content) (x : ℕ) (rest : List ℕ) (r : Record) (b : Bundle) → AllTaken contents
    → length contents < 64 → ReadAllows (bundled contents ++ (x ∷ rest)) (length (bundled contents)) r → (r.number ≡ 0 → ⊥)
    → BundleAllows (bundled contents ++ (x ∷ rest)) b → b ≡ record { number = r.number; records = 0 }

-- ---- what a refusal leaves, and where the parts of a record lie

abbrev pub RefusedGivesNoRecord : Type 0
RefusedGivesNoRecord =
    ((s : List ℕ) (at : ℕ) (r : Record) → ReadAllows s at r → (r.number ≡ 0 → ⊥) → r ≡ no_record r.number)
    × ((s : List ℕ) (b : Bundle) → BundleAllows s b → (b.number ≡ 0 → ⊥) → b.records ≡ 0)

-- refused: not one byte changes; done: the record lies at the start, and the bytes after it stay
pub record Leaves (text destination : List ℕ) (w : Writing) : Type 0 where
  pub refused : (w.answer.number ≡ 0 → ⊥) → (w.destination ≡ destination) × (w.answer.length ≡ 0)
  pub done : w.answer.number ≡ 0 → (w.destination ≡ text ++ drop (length text) destination) × (w.answer.length ≡ length text)

abbrev pub RefusedWritesNothing : Type 0
RefusedWritesNothing =
    ((c : Content) (destination : List ℕ) (w : Writing) → WriteAllows c destination w → Leaves (written c) destination w)
    × ((row : ℕ) (note destination : List ℕ) (w : Writing) → RowDataAllows row note destination w → Leaves (row_data row note) destination w)

-- At the end and past it nothing is left: 10, for every place.
abbrev pub NoPlacePastTheEnd : Type 0
NoPlacePastTheEnd = (s : List ℕ) (at : ℕ) (r : Record) → length s ≤ at → ReadAllows s at r → r ≡ no_record 10

-- The four texts lie one after another, three bytes apart, within the record, and the record within the bytes.
pub record Within (s : List ℕ) (at : ℕ) (r : Record) : Type 0 where
  pub nonce : r.nonce ≡ at + 12
  pub note : r.note ≡ r.nonce + r.nonce_length + 3
  pub cipher : r.cipher ≡ r.note + r.note_length + 3
  pub tag : r.tag ≡ r.cipher + r.cipher_length + 3
  pub end : r.tag + 16 ≡ at + r.length
  pub inside : at + r.length ≤ length s
  pub longest : r.length ≤ 5172

abbrev pub PlacesLieWithin : Type 0
PlacesLieWithin = (s : List ℕ) (at : ℕ) (r : Record) → ReadAllows s at r → r.number ≡ 0 → Within s at r

-- ---- the numbers in their order

-- one field: fewer than three bytes left, wrong tag, length not allowed, bytes missing, outside its range
pub record ChecksInOrder (r : Rule) (s : List ℕ) : Type 0 where
  pub few : length s < 3 → take_field r s ≡ refused 10
  pub tag : 3 ≤ length s → (get_or s 0 0 ≡ r.tag → ⊥) → take_field r s ≡ refused 11
  pub size : 3 ≤ length s → get_or s 0 0 ≡ r.tag → (told s < r.least) ⊎ (r.greatest < told s) → take_field r s ≡ refused 12
  pub missing : 3 ≤ length s → get_or s 0 0 ≡ r.tag → r.least ≤ told s → told s ≤ r.greatest → length s < 3 + told s
      → take_field r s ≡ refused 10
  pub range : get_or s 0 0 ≡ r.tag → r.least ≤ told s → told s ≤ r.greatest → 3 + told s ≤ length s
      → r.in_range (part s 3 (told s)) ≡ false → take_field r s ≡ refused 13
  pub done : get_or s 0 0 ≡ r.tag → r.least ≤ told s → told s ≤ r.greatest → 3 + told s ≤ length s
      → r.in_range (part s 3 (told s)) ≡ true → take_field r s ≡ got (part s 3 (told s)) (drop (3 + told s) s)

-- Each field is checked in this order; and where the fields before it are as the writer writes them, its number is the record's. The suite
-- that decides the nonce's length is the record's fourth byte.
abbrev pub ReadFieldByField : Type 0
ReadFieldByField =
    ((r : Rule) (s : List ℕ) → ChecksInOrder r s)
    × ((before others : List Rule) (r : Rule) (bodies : List (List ℕ)) (front left : List ℕ) (n : ℕ) (outcome : Record)
    → rules (get_or (fields before bodies ++ left) 3 0) ≡ before ++ (r ∷ others)
    → fields_refusal before bodies ≡ 0 → length bodies ≡ length before → take_field r left ≡ refused n
    → ReadAllows (front ++ (fields before bodies ++ left)) (length front) outcome → outcome ≡ no_record n)

abbrev pub InRange : ℕ → ℕ → Type 0
InRange greatest n = (1 ≤ n) × (n ≤ greatest)

-- 12 or 13 field by field, and last 24
pub record WritesInOrder (c : Content) (room : ℕ) (number : ℕ) : Type 0 where
  pub suite : (InRange 4 c.suite → ⊥) → number ≡ 13
  pub row : InRange 4 c.suite → (InRange 20 c.row → ⊥) → number ≡ 13
  pub nonce : InRange 4 c.suite → InRange 20 c.row → (length c.nonce ≡ nonce_length c.suite → ⊥) → number ≡ 12
  pub note : InRange 4 c.suite → InRange 20 c.row → length c.nonce ≡ nonce_length c.suite → 1024 < length c.note
      → number ≡ 12
  pub cipher : InRange 4 c.suite → InRange 20 c.row → length c.nonce ≡ nonce_length c.suite → length c.note ≤ 1024
      → 4096 < length c.cipher → number ≡ 12
  pub tag : InRange 4 c.suite → InRange 20 c.row → length c.nonce ≡ nonce_length c.suite → length c.note ≤ 1024
      → length c.cipher ≤ 4096 → (length c.tag ≡ 16 → ⊥) → number ≡ 12
  pub destination : InRange 4 c.suite → InRange 20 c.row → length c.nonce ≡ nonce_length c.suite → length c.note ≤ 1024
      → length c.cipher ≤ 4096 → length c.tag ≡ 16 → room < length (written c) → number ≡ 24
  pub done : InRange 4 c.suite → InRange 20 c.row → length c.nonce ≡ nonce_length c.suite → length c.note ≤ 1024
      → length c.cipher ≤ 4096 → length c.tag ≡ 16 → length (written c) ≤ room → number ≡ 0

abbrev pub WrittenFieldByField : Type 0
WrittenFieldByField = (c : Content) (destination : List ℕ) (w : Writing) → c.row < 65536 → WriteAllows c destination w
    → WritesInOrder c (length destination) w.answer.number

-- The longest record that the writer takes has 5,172 bytes.
pub record Longest : Type 0 where
  pub none_longer : (c : Content) → Takes c → length (written c) ≤ 5172
  pub content : Content
  pub taken : Takes content
  pub as_long : length (written content) ≡ 5172

-- ---- the cipher's associated data

-- Two rows or two notes never have the same associated data.
abbrev pub DataTellsRowAndNote : Type 0
DataTellsRowAndNote = (row row' : ℕ) (note note' : List ℕ) → row < 65536 → row' < 65536
    → row_data row note ≡ row_data row' note' → (row ≡ row') × (note ≡ note')

-- an opening of what the reader gave
abbrev pub OpensFrom : List ℕ → List ℕ → Record → Opening → Type 0
OpensFrom s key r o =
    OpenAllows r.suite key (part s r.nonce r.nonce_length) (row_data r.row (part s r.note r.note_length))
    (part s r.cipher r.cipher_length) (part s r.tag 16) o

-- A row that was sealed with its row bytes and note as associated data, and written as a record, is read and opened as that message, with
-- nothing but the key and what the reader gave.
abbrev pub SealedRowComesBack : Type 0
SealedRowComesBack =
    (suite row : ℕ) (key nonce note message destination before after : List ℕ) (sealed : Sealing) (w : Writing) (r : Record) (o : Opening)
    → Given key nonce (row_data row note) → Bytes message → row < 65536
    → SealAllows suite key nonce (row_data row note) message sealed → sealed.answer.number ≡ 0
    → WriteAllows (record { suite = suite; row = row; nonce = nonce; note = note; cipher = sealed.buffer; tag = sealed.answer.tag })
    destination w
    → w.answer.number ≡ 0
    → ReadAllows (before ++ (take w.answer.length w.destination ++ after)) (length before) r
    → OpensFrom (before ++ (take w.answer.length w.destination ++ after)) key r o → Returned message o

-- ---- one outcome for each operation

abbrev pub OneOutcomeOfRecords : Type 0
OneOutcomeOfRecords =
    ((c : Content) (destination : List ℕ) (w w' : Writing) → WriteAllows c destination w → WriteAllows c destination w' → w ≡ w')
    × ((row : ℕ) (note destination : List ℕ) (w w' : Writing)
    → RowDataAllows row note destination w → RowDataAllows row note destination w' → w ≡ w')
    × ((s : List ℕ) (at : ℕ) (r r' : Record) → ReadAllows s at r → ReadAllows s at r' → r ≡ r')
    × ((s : List ℕ) (b b' : Bundle) → BundleAllows s b → BundleAllows s b' → b ≡ b')
