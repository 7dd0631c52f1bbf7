-- What sealing and opening promise, for every outcome that the contracts of `seal` and `open` allow: `SealAllows` and `OpenAllows` are those
-- contracts (crates/deoxys/specs/Entry). An outcome is the answer and the message buffer at the end. The proofs are in proofs/.
-- Assumes nothing.
use Rattle.std.specs.Prelude.{◌≡◌, ◌↔◌, List, ℕ, ◌+◌, ◌*◌, length}
use Rattle.octets.specs.Octets.{Bytes, pick, blocks_of}
use Rattle.suites.specs.Suites.{is_deoxys_i}
use Rattle.deoxys.specs.Entry.{Sealing, Opening, sealed, opened, sealing, SealAllows, OpenAllows}

-- the inputs that both sides share are bytes, of any length
pub record Given (key nonce ad : List ℕ) : Type 0 where
  pub key_bytes : Bytes key
  pub nonce_bytes : Bytes nonce
  pub ad_bytes : Bytes ad

-- the definition's sealing answers this message with 0, this ciphertext and this tag
pub record Seals (suite : ℕ) (key nonce ad message cipher tag : List ℕ) : Type 0 where
  pub answers : (sealing suite key nonce ad message).answer.number ≡ 0
  pub gives_cipher : (sealing suite key nonce ad message).buffer ≡ cipher
  pub gives_tag : (sealing suite key nonce ad message).answer.tag ≡ tag

-- there is a message of bytes that seals to this ciphertext and tag
pub record Source (suite : ℕ) (key nonce ad cipher tag : List ℕ) : Type 0 where
  pub message : List ℕ
  pub message_bytes : Bytes message
  pub seals : Seals suite key nonce ad message cipher tag

-- An opening answers 0 if and only if some message seals to this ciphertext and tag.
abbrev pub AcceptsExactly : Type 0
AcceptsExactly = (suite : ℕ) (key nonce ad cipher tag : List ℕ) (outcome : Opening) → Given key nonce ad → Bytes cipher → Bytes tag
    → OpenAllows suite key nonce ad cipher tag outcome
    → outcome.answer.number ≡ 0 ↔ Source suite key nonce ad cipher tag

-- What an accepting opening leaves is that message.
abbrev pub LeavesTheMessage : Type 0
LeavesTheMessage = (suite : ℕ) (key nonce ad message cipher tag : List ℕ) (outcome : Opening) → Given key nonce ad → Bytes message
    → OpenAllows suite key nonce ad cipher tag outcome → Seals suite key nonce ad message cipher tag
    → outcome.buffer ≡ message

-- No other message seals to this ciphertext and tag.
abbrev pub OnlyOne : Type 0
OnlyOne = (suite : ℕ) (key nonce ad message message' cipher tag : List ℕ) → Given key nonce ad → Bytes message → Bytes message'
    → Seals suite key nonce ad message cipher tag → Seals suite key nonce ad message' cipher tag
    → message ≡ message'

-- Two openings that differ in the key's bytes alone, with no such message for either, are equal in answer, row count and whole buffer,
-- whatever refuses them.
abbrev pub KeysAlike : Type 0
KeysAlike = (suite : ℕ) (key key' nonce ad cipher tag : List ℕ) (outcome outcome' : Opening)
    → Given key nonce ad → Given key' nonce ad → Bytes cipher → Bytes tag → length key ≡ length key'
    → OpenAllows suite key nonce ad cipher tag outcome → OpenAllows suite key' nonce ad cipher tag outcome'
    → (Source suite key nonce ad cipher tag → ⊥) → (Source suite key' nonce ad cipher tag → ⊥)
    → outcome ≡ outcome'

-- Two openings that both answer 7 are equal whatever the bytes, where suite and lengths agree.
abbrev pub RefusedAlike : Type 0
RefusedAlike = (suite : ℕ) (key key' nonce nonce' ad ad' cipher cipher' tag tag' : List ℕ) (outcome outcome' : Opening)
    → Given key nonce ad → Given key' nonce' ad' → Bytes cipher → Bytes cipher' → Bytes tag → Bytes tag'
    → length ad ≡ length ad' → length cipher ≡ length cipher'
    → OpenAllows suite key nonce ad cipher tag outcome → OpenAllows suite key' nonce' ad' cipher' tag' outcome'
    → outcome.answer.number ≡ 7 → outcome'.answer.number ≡ 7
    → outcome ≡ outcome'

-- What sealing answers with 0, opening accepts and gives back.
pub record Returned (message : List ℕ) (outcome : Opening) : Type 0 where
  pub accepts : outcome.answer.number ≡ 0
  pub gives_back : outcome.buffer ≡ message

abbrev pub RoundTrip : Type 0
RoundTrip = (suite : ℕ) (key nonce ad message : List ℕ) (s : Sealing) (o : Opening) → Given key nonce ad → Bytes message
    → SealAllows suite key nonce ad message s → s.answer.number ≡ 0
    → OpenAllows suite key nonce ad s.buffer s.answer.tag o
    → Returned message o

-- The count in the answer is the length of the definition's list of rows: of a sealing that answers 0, of an opening that answers 0 or 7.
abbrev pub CountsTheListOfSeal : Type 0
CountsTheListOfSeal = (suite : ℕ) (key nonce ad message : List ℕ) (outcome : Sealing)
    → SealAllows suite key nonce ad message outcome → outcome.answer.number ≡ 0
    → outcome.answer.rows ≡ length (sealed suite key nonce ad message).rows

abbrev pub CountsTheListOfOpen : Type 0
CountsTheListOfOpen = (suite : ℕ) (key nonce ad cipher tag : List ℕ) (outcome : Opening)
    → OpenAllows suite key nonce ad cipher tag outcome
    → ((outcome.answer.number ≡ 0) → outcome.answer.rows ≡ length (opened suite key nonce ad cipher tag).rows)
    × ((outcome.answer.number ≡ 7) → outcome.answer.rows ≡ length (opened suite key nonce ad cipher tag).rows)

-- The rows from the lengths alone: a + m + 1 for Deoxys-I, a + 2m + 1 for Deoxys-II, with a and m the numbers of blocks.
abbrev pub rows_for : ℕ → ℕ → ℕ → ℕ
rows_for suite ad text = pick (is_deoxys_i suite) (blocks_of ad + blocks_of text + 1) (blocks_of ad + 2 * blocks_of text + 1)

abbrev pub RowsCountedSealing : Type 0
RowsCountedSealing = (suite : ℕ) (key nonce ad message : List ℕ) (outcome : Sealing)
    → SealAllows suite key nonce ad message outcome → outcome.answer.number ≡ 0
    → outcome.answer.rows ≡ rows_for suite (length ad) (length message)

-- an opening that answers 0 or 7; the others count no rows
abbrev pub RowsCountedOpening : Type 0
RowsCountedOpening = (suite : ℕ) (key nonce ad cipher tag : List ℕ) (outcome : Opening) → Given key nonce ad → Bytes cipher → Bytes tag
    → OpenAllows suite key nonce ad cipher tag outcome
    → ((outcome.answer.number ≡ 0) → outcome.answer.rows ≡ rows_for suite (length ad) (length cipher))
    × ((outcome.answer.number ≡ 7) → outcome.answer.rows ≡ rows_for suite (length ad) (length cipher))

-- Two outcomes that a contract allows for the same input are equal, in answer and in every byte of the buffer.
abbrev pub OneOutcomeOfSeal : Type 0
OneOutcomeOfSeal = (suite : ℕ) (key nonce ad message : List ℕ) (outcome outcome' : Sealing)
    → SealAllows suite key nonce ad message outcome → SealAllows suite key nonce ad message outcome' → outcome ≡ outcome'

abbrev pub OneOutcomeOfOpen : Type 0
OneOutcomeOfOpen = (suite : ℕ) (key nonce ad cipher tag : List ℕ) (outcome outcome' : Opening)
    → OpenAllows suite key nonce ad cipher tag outcome → OpenAllows suite key nonce ad cipher tag outcome' → outcome ≡ outcome'
