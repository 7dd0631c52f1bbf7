-- What sealing and opening make, they make of their list of rows: document 01, "Rows" ("take every enciphered or deciphered block from
-- that list and use every row") and "Modes". The readers below have no key: they take the rows from the front of the list, in its order.
-- Assumes nothing.
use Rattle.std.specs.Prelude.{◌≡◌, List, [], ◌∷◌, ℕ, ◌+◌, ◌/◌, length, take, drop}
use Rattle.octets.specs.Octets.{pick, ◌⊕◌, zero_block}
use Rattle.tweakey.specs.Tweakey.{expanded}
use Rattle.tweakey.specs.declared.Subkeys.{Subkeys}
use Rattle.deoxys_bc.specs.Cipher.{encipher, decipher}
use Rattle.modes.specs.Rows.{Row, blocks, absorbed}
use Rattle.deoxys_i.specs.DeoxysI.{text_of, checksum}
use Rattle.deoxys_ii.specs.DeoxysII.{given}
use Rattle.suites.specs.Suites.{is_deoxys_i}
use Rattle.deoxys.specs.Entry.{Sealing, Opening, sealed, opened, SealAllows, OpenAllows}

-- ---- reading a list of rows

pub record Made : Type 0 where
  pub text : List ℕ
  pub tag : List ℕ
  -- the row that gives the tag, and the block that it has to be given
  pub tag_row_lem : Row
  pub enciphers : List ℕ
  -- the number of rows that were asked for, and the rows that nothing took
  pub asked : ℕ
  pub unused : List Row

-- the next n rows, and the rows after them, go into what is made
unfoldable pub next : ℕ → List Row → (List Row → List Row → Made) → Made
next n rows make = make (take n rows) (drop n rows)

-- the next row; a list that has ended gives an empty one
abbrev pub next_row : List Row → (Row → List Row → Made) → Made
next_row [] make = make (record { tweak = []; from = []; to = [] }) []
next_row (r ∷ rows) make = make r rows

-- Deoxys-I: data, message, tag. The message is found from the text that the rows make
abbrev pub read_i : List ℕ → List ℕ → (List ℕ → List ℕ) → List Row → Made
read_i ad s message rows =
    next (blocks ad) rows
    (λ over-data rows. next (blocks s) rows
    (λ over_text rows. next_row rows
    (λ tag_row_lem rows. record {
      text = text_of (length s / 16) over_text s;
      tag = absorbed zero_block over-data ⊕ tag_row_lem.to;
      tag_row_lem = tag_row_lem;
      enciphers = checksum (message (text_of (length s / 16) over_text s));
      asked = blocks ad + blocks s + 1;
      unused = rows;
    })))

-- Deoxys-II sealing: data, message, tag, keystream
abbrev pub read_seal_ii : List ℕ → List ℕ → List Row → Made
read_seal_ii ad message rows =
    next (blocks ad) rows
    (λ over-data rows. next (blocks message) rows
    (λ over_message rows. next_row rows
    (λ tag_row_lem rows. next (blocks message) rows
    (λ keystream rows. record {
      text = message ⊕ given keystream;
      tag = tag_row_lem.to;
      tag_row_lem = tag_row_lem;
      enciphers = absorbed (absorbed zero_block over-data) over_message;
      asked = blocks ad + blocks message + 1 + blocks message;
      unused = rows;
    }))))

-- Deoxys-II opening: data, keystream, message, tag
abbrev pub read_open_ii : List ℕ → List ℕ → List Row → Made
read_open_ii ad cipher rows =
    next (blocks ad) rows
    (λ over-data rows. next (blocks cipher) rows
    (λ keystream rows. next (blocks (cipher ⊕ given keystream)) rows
    (λ over_message rows. next_row rows
    (λ tag_row_lem rows. record {
      text = cipher ⊕ given keystream;
      tag = tag_row_lem.to;
      tag_row_lem = tag_row_lem;
      enciphers = absorbed (absorbed zero_block over-data) over_message;
      asked = blocks ad + blocks cipher + blocks (cipher ⊕ given keystream) + 1;
      unused = rows;
    }))))

-- sealing has the message; opening in Deoxys-I has what it recovers
unfoldable pub read_seal : ℕ → List ℕ → List ℕ → List Row → Made
read_seal suite ad message rows = pick (is_deoxys_i suite) (read_i ad message (λ text. message) rows) (read_seal_ii ad message rows)

unfoldable pub read_open : ℕ → List ℕ → List ℕ → List Row → Made
read_open suite ad cipher rows = pick (is_deoxys_i suite) (read_i ad cipher (λ text. text) rows) (read_open_ii ad cipher rows)

-- ---- the statements

-- each row is one call of the block cipher with this key, one way or the other
pub data Call (k : Subkeys) (r : Row) : Type 0 where
  enciphers : r.to ≡ encipher k r.tweak r.from → Call k r
  deciphers : r.to ≡ decipher k r.tweak r.from → Call k r

pub data Calls (k : Subkeys) : List Row → Type 0 where
  no_more : Calls k []
  one_more : {r : Row} {rows : List Row} → Call k r → Calls k rows → Calls k (r ∷ rows)

-- text and tag are what the rows make; the tag's row was given what the others make; every row asked for is there, and every row is used
pub record Whole (k : Subkeys) (rows : List Row) (made : Made) (text tag : List ℕ) : Type 0 where
  pub calls : Calls k rows
  pub makes_text : made.text ≡ text
  pub makes_tag : made.tag ≡ tag
  pub tag_row_given : made.tag_row_lem.from ≡ made.enciphers
  pub none_missing : made.asked ≡ length rows
  pub none_unused : made.unused ≡ []

abbrev pub MadeOf : Subkeys → List Row → (List Row → Made) → List ℕ → List ℕ → Type 0
MadeOf k rows read text tag = Whole k rows (read rows) text tag

abbrev pub MadeOfRowsOfSeal : Type 0
MadeOfRowsOfSeal = (suite : ℕ) (key nonce ad message : List ℕ) (outcome : Sealing)
    → SealAllows suite key nonce ad message outcome → outcome.answer.number ≡ 0
    → MadeOf (expanded key) (sealed suite key nonce ad message).rows (read_seal suite ad message) outcome.buffer outcome.answer.tag

-- an opening that answers 0, with the given tag; and one that answers 7, with the text and the tag that it computed
abbrev pub MadeOfRowsOfOpen : Type 0
MadeOfRowsOfOpen = (suite : ℕ) (key nonce ad cipher tag : List ℕ) (outcome : Opening)
    → OpenAllows suite key nonce ad cipher tag outcome
    → ((outcome.answer.number ≡ 0)
    → MadeOf (expanded key) (opened suite key nonce ad cipher tag).rows (read_open suite ad cipher) outcome.buffer tag)
    × ((outcome.answer.number ≡ 7)
    → MadeOf (expanded key) (opened suite key nonce ad cipher tag).rows (read_open suite ad cipher)
    (opened suite key nonce ad cipher tag).text (opened suite key nonce ad cipher tag).tag)
