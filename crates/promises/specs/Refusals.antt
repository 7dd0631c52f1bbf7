-- Which number sealing and opening answer with, and what they then leave: document 01, "Numbers an entry point answers with". Each number
-- is given exactly where its line of that table applies and no line before it does.
-- Assumes nothing.
use Rattle.std.specs.Prelude.{◌≡◌, ◌↔◌, List, ℕ, ◌≤◌, ◌<◌, length, replicate}
use Rattle.octets.specs.Octets.{zero_block}
use Rattle.suites.specs.Suites.{key_length, nonce_length}
use Rattle.deoxys.specs.Entry.{Sealing, Opening, sealed, opened, SealAllows, OpenAllows}

-- the lines of the table that both have, in its order; no other number has one
pub data Fault (suite : ℕ) (key nonce ad text : List ℕ) : ℕ → Type 0 where
  no_suite : ((1 ≤ suite) × (suite ≤ 4) → ⊥) → Fault suite key nonce ad text 1
  wrong_key : (length key ≡ key_length suite → ⊥) → Fault suite key nonce ad text 2
  wrong_nonce : (length nonce ≡ nonce_length suite → ⊥) → Fault suite key nonce ad text 3
  long_data : 1048576 < length ad → Fault suite key nonce ad text 4
  long_text : 1048576 < length text → Fault suite key nonce ad text 5

-- and those of opening alone
pub data OpenFault (suite : ℕ) (key nonce ad cipher tag : List ℕ) : ℕ → Type 0 where
  both : {n : ℕ} → Fault suite key nonce ad cipher n → OpenFault suite key nonce ad cipher tag n
  tag_length : (length tag ≡ 16 → ⊥) → OpenFault suite key nonce ad cipher tag 6
  wrong_tag : (tag ≡ (opened suite key nonce ad cipher tag).tag → ⊥) → OpenFault suite key nonce ad cipher tag 7

-- the line of this number applies, and none before it does
pub record First (fault : ℕ → Type 0) (n : ℕ) : Type 0 where
  pub applies : fault n
  pub none_before : (m : ℕ) → m < n → fault m → ⊥

-- a number is given exactly where it is the first, and 0 exactly where no line applies
pub record Ordered (fault : ℕ → Type 0) (number : ℕ) : Type 0 where
  pub refused : (n : ℕ) → 0 < n → number ≡ n ↔ First fault n
  pub done : number ≡ 0 ↔ ((n : ℕ) → fault n → ⊥)

-- ---- sealing

-- what an outcome holds beside its number
pub record SealLeaves (outcome : Sealing) (tag : List ℕ) (rows : ℕ) (buffer : List ℕ) : Type 0 where
  pub tag_is : outcome.answer.tag ≡ tag
  pub rows_are : outcome.answer.rows ≡ rows
  pub buffer_is : outcome.buffer ≡ buffer

-- refused: 16 zero bytes as tag, no rows, the buffer unchanged; else what the suite's mode makes, and every row counted
pub record SealsInOrder (suite : ℕ) (key nonce ad message : List ℕ) (outcome : Sealing) : Type 0 where
  pub numbered : Ordered (Fault suite key nonce ad message) outcome.answer.number
  pub refused : (outcome.answer.number ≡ 0 → ⊥) → SealLeaves outcome zero_block 0 message
  pub done : outcome.answer.number ≡ 0
      → SealLeaves outcome (sealed suite key nonce ad message).tag (length (sealed suite key nonce ad message).rows)
      (sealed suite key nonce ad message).text

abbrev pub RefusedInOrderOfSeal : Type 0
RefusedInOrderOfSeal = (suite : ℕ) (key nonce ad message : List ℕ) (outcome : Sealing)
    → SealAllows suite key nonce ad message outcome → SealsInOrder suite key nonce ad message outcome

-- ---- opening

pub record OpenLeaves (outcome : Opening) (rows : ℕ) (buffer : List ℕ) : Type 0 where
  pub rows_are : outcome.answer.rows ≡ rows
  pub buffer_is : outcome.buffer ≡ buffer

-- 1 to 6: no rows, the buffer unchanged; 7: every row counted, every byte zero; else what the suite's mode recovers, and every row counted
pub record OpensInOrder (suite : ℕ) (key nonce ad cipher tag : List ℕ) (outcome : Opening) : Type 0 where
  pub numbered : Ordered (OpenFault suite key nonce ad cipher tag) outcome.answer.number
  pub refused : 1 ≤ outcome.answer.number → outcome.answer.number ≤ 6 → OpenLeaves outcome 0 cipher
  pub wrong : outcome.answer.number ≡ 7
      → OpenLeaves outcome (length (opened suite key nonce ad cipher tag).rows) (replicate (length cipher) 0)
  pub done : outcome.answer.number ≡ 0
      → OpenLeaves outcome (length (opened suite key nonce ad cipher tag).rows) (opened suite key nonce ad cipher tag).text

abbrev pub RefusedInOrderOfOpen : Type 0
RefusedInOrderOfOpen = (suite : ℕ) (key nonce ad cipher tag : List ℕ) (outcome : Opening)
    → OpenAllows suite key nonce ad cipher tag outcome → OpensInOrder suite key nonce ad cipher tag outcome

-- Demand 1, both ways
abbrev pub RefusedInOrder : Type 0
RefusedInOrder = RefusedInOrderOfSeal × RefusedInOrderOfOpen
