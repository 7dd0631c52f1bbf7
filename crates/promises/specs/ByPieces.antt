-- What sealing by pieces promises: document 02, request a. Every outcome that the contracts of `begin`, `take` and `finish` allow is meant:
-- `BeginAllows`, `TakeAllows` and `FinishAllows` are those contracts (crates/pieces/specs/ByPieces). The proofs are in proofs/.
-- Assumes nothing.
use Rattle.std.specs.Prelude.{◌≡◌, ◌⊎◌, List, [], ◌∷◌, ◌++◌, ℕ, ◌+◌, ◌%◌, ◌≤◌, ◌<◌, eqb, length}
use Rattle.octets.specs.Octets.{Bytes, pick, zero_block}
use Rattle.tweakey.specs.Tweakey.{expanded}
use Rattle.modes.specs.Rows.{Row, data_rows}
use Rattle.deoxys.specs.Entry.{Sealing, Opening, sealed, sealing, OpenAllows}
use Rattle.pieces.specs.declared.Pieces.{Pieces}
use Rattle.pieces.specs.declared.Finished.{Finished}
use Rattle.pieces.specs.ByPieces.{held, void, Taking, piece_rows, finish_row, BeginAllows, TakeAllows, FinishAllows}
use Rattle.promises.specs.Statements.{Given, Returned}
use Rattle.promises.specs.Refusals.{Fault, Ordered}

-- ---- pieces one after another

-- a piece as it was given, and the outcome of taking it
pub record Step : Type 0 where
  pub piece : List ℕ
  pub outcome : Taking

-- each call is given the state that the call before it handed back: the steps lead from the first state to the last
abbrev pub Leads : Pieces → List Step → Pieces → Type 0
Leads p [] q = q ≡ p
Leads p (s ∷ steps) q = TakeAllows p s.piece s.outcome × Leads s.outcome.answer.pieces steps q

-- all pieces joined, as they were given and as they were left
abbrev pub given : List Step → List ℕ
given [] = []
given (s ∷ steps) = s.piece ++ given steps

abbrev pub left : List Step → List ℕ
left [] = []
left (s ∷ steps) = s.outcome.piece ++ left steps

-- the same of those alone that were answered with 0
abbrev pub taken_given : List Step → List ℕ
taken_given [] = []
taken_given (s ∷ steps) = pick (eqb s.outcome.answer.number 0) (s.piece ++ taken_given steps) (taken_given steps)

abbrev pub taken_left : List Step → List ℕ
taken_left [] = []
taken_left (s ∷ steps) = pick (eqb s.outcome.answer.number 0) (s.outcome.piece ++ taken_left steps) (taken_left steps)

-- the block cipher calls that these made, each piece's from the state that took it
abbrev pub taken_rows : Pieces → List Step → List Row
taken_rows p [] = []
taken_rows p (s ∷ steps) =
    pick (eqb s.outcome.answer.number 0) (piece_rows p s.piece ++ taken_rows s.outcome.answer.pieces steps)
    (taken_rows s.outcome.answer.pieces steps)

-- an allowed cutting: each piece but the last is of whole blocks, none too; and the total is not above the limit
abbrev pub WholeButLast : List Step → Type 0
WholeButLast [] = Unit {0}
WholeButLast (s ∷ []) = Unit {0}
WholeButLast (s ∷ t ∷ steps) = (length s.piece % 16 ≡ 0) × WholeButLast (t ∷ steps)

pub record Allowed (steps : List Step) : Type 0 where
  pub whole_but_last : WholeButLast steps
  pub within : length (given steps) ≤ 1048576

-- every step has this number
abbrev pub Numbered : ℕ → List Step → Type 0
Numbered n [] = Unit {0}
Numbered n (s ∷ steps) = (s.outcome.answer.number ≡ n) × Numbered n steps

-- ---- one call

-- what was left of the pieces, and the finish, are what one call gives
pub record OneCall (call : Sealing) (cipher : List ℕ) (f : Finished) : Type 0 where
  pub ciphertext : cipher ≡ call.buffer
  pub number : f.number ≡ call.answer.number
  pub tag : f.tag ≡ call.answer.tag
  pub rows : f.rows ≡ call.answer.rows

-- For every allowed cutting: joined ciphertexts, tag and rows equal the single call, and so does each number. Where begin refuses, the call
-- refuses alike.
abbrev pub PiecesAreOneCall : Type 0
PiecesAreOneCall = (suite : ℕ) (key nonce ad : List ℕ) (begun p : Pieces) (steps : List Step) (f : Finished)
    → suite ≤ 2 → BeginAllows suite key nonce ad begun → Leads begun steps p → FinishAllows p f → Allowed steps
    → OneCall (sealing suite key nonce ad (given steps)) (left steps) f
    × Numbered (sealing suite key nonce ad (given steps)).answer.number steps

-- For any pieces at all, refused ones among them: ciphertext, tag and rows are those of the single call over the pieces that were taken.
abbrev pub RefusedPiecesLeaveNoTrace : Type 0
RefusedPiecesLeaveNoTrace = (suite : ℕ) (key nonce ad : List ℕ) (begun p : Pieces) (steps : List Step) (f : Finished)
    → suite ≤ 2 → BeginAllows suite key nonce ad begun → Leads begun steps p → FinishAllows p f
    → OneCall (sealing suite key nonce ad (taken_given steps)) (taken_left steps) f

-- And the block cipher calls, the data's, the pieces' and the tag's, are those of the single call, one by one and in its order.
abbrev pub PiecesMakeTheSameCalls : Type 0
PiecesMakeTheSameCalls = (suite : ℕ) (key nonce ad : List ℕ) (begun p : Pieces) (steps : List Step)
    → BeginAllows suite key nonce ad begun → begun.number ≡ 0 → Leads begun steps p
    → data_rows (expanded key) ad ++ (taken_rows begun steps ++ (finish_row p ∷ [])) ≡ (sealed suite key nonce ad (taken_given steps)).rows

-- What was sealed by pieces, opening accepts and gives back.
abbrev pub OpensWhatPiecesSealed : Type 0
OpensWhatPiecesSealed = (suite : ℕ) (key nonce ad : List ℕ) (begun p : Pieces) (steps : List Step) (f : Finished) (o : Opening)
    → Given key nonce ad → Bytes (given steps) → BeginAllows suite key nonce ad begun → begun.number ≡ 0
    → Leads begun steps p → FinishAllows p f → Allowed steps
    → OpenAllows suite key nonce ad (left steps) f.tag o → Returned (given steps) o

-- ---- the numbers in their order, and what each leaves

-- begin's lines: those of one call with an empty message, and 1 for the suites that need two passes
pub data BeginFault (suite : ℕ) (key nonce ad : List ℕ) : ℕ → Type 0 where
  as_one_call : {n : ℕ} → Fault suite key nonce ad [] n → BeginFault suite key nonce ad n
  two_passes : 2 < suite → BeginFault suite key nonce ad 1

-- refused: the number, and zero in all else; else nothing has been taken
pub record BeginsInOrder (suite : ℕ) (key nonce ad : List ℕ) (begun : Pieces) : Type 0 where
  pub numbered : Ordered (BeginFault suite key nonce ad) begun.number
  pub refused : (begun.number ≡ 0 → ⊥) → begun ≡ void begun.number
  pub done : begun.number ≡ 0 → begun ≡ held (expanded key) nonce ad [] 0

-- what a state has to be for a call that this stage is the last for; all but the stage holds of every state that a begin and its pieces gave
pub record Ready (last : ℕ) (p : Pieces) : Type 0 where
  pub in_time : p.stage ≤ last
  pub few_bytes : p.total ≤ 1048576
  pub few_rows : p.count.rows ≤ 131072
  pub of_a_key : (p.keys.rounds ≡ 14) ⊎ (p.keys.rounds ≡ 16)

-- begin's number first of all, then 8, then 5; refused: state and piece as they stood
pub record TakesInOrder (p : Pieces) (piece : List ℕ) (outcome : Taking) : Type 0 where
  pub first_of_all : (p.number ≡ 0 → ⊥) → outcome.answer.number ≡ p.number
  pub then_8 : p.number ≡ 0 → (Ready 0 p → ⊥) → outcome.answer.number ≡ 8
  pub then_5 : p.number ≡ 0 → Ready 0 p → 1048576 < p.total + length piece → outcome.answer.number ≡ 5
  pub done : p.number ≡ 0 → Ready 0 p → p.total + length piece ≤ 1048576 → outcome.answer.number ≡ 0
  pub refused : (outcome.answer.number ≡ 0 → ⊥) → (outcome.answer.pieces ≡ p) × (outcome.piece ≡ piece)

-- refused: the state as it stood, 16 zero bytes as tag, no rows
pub record FinishesInOrder (p : Pieces) (f : Finished) : Type 0 where
  pub first_of_all : (p.number ≡ 0 → ⊥) → f.number ≡ p.number
  pub then_8 : p.number ≡ 0 → (Ready 1 p → ⊥) → f.number ≡ 8
  pub done : p.number ≡ 0 → Ready 1 p → f.number ≡ 0
  pub refused : (f.number ≡ 0 → ⊥) → (f.pieces ≡ p) × (f.tag ≡ zero_block) × (f.rows ≡ 0)

abbrev pub RefusedInOrderByPieces : Type 0
RefusedInOrderByPieces =
    ((suite : ℕ) (key nonce ad : List ℕ) (begun : Pieces) → BeginAllows suite key nonce ad begun → BeginsInOrder suite key nonce ad begun)
    × ((p : Pieces) (piece : List ℕ) (outcome : Taking) → TakeAllows p piece outcome → TakesInOrder p piece outcome)
    × ((p : Pieces) (f : Finished) → FinishAllows p f → FinishesInOrder p f)

-- pieces that were all refused with a number and left as they were, and the state as it stood
pub record Stays (n : ℕ) (p : Pieces) (steps : List Step) (q : Pieces) : Type 0 where
  pub numbered : Numbered n steps
  pub as_given : left steps ≡ given steps
  pub at_rest : q ≡ p

-- A piece that was taken and is no multiple of 16 bytes is the last: all later ones, of any length, are refused with 8.
abbrev pub PartialPieceIsTheLast : Type 0
PartialPieceIsTheLast = (p q : Pieces) (piece : List ℕ) (outcome : Taking) (steps : List Step)
    → TakeAllows p piece outcome → outcome.answer.number ≡ 0 → (length piece % 16 ≡ 0 → ⊥)
    → Leads outcome.answer.pieces steps q → Stays 8 outcome.answer.pieces steps q

-- and the finish is refused too, with zero tag and no rows
abbrev pub refused_finish : ℕ → Pieces → Finished
refused_finish n p = record { pieces = p; number = n; tag = zero_block; rows = 0 }

-- After a finish, all pieces and every finish are refused with 8.
abbrev pub FinishIsTheLast : Type 0
FinishIsTheLast = (p q : Pieces) (f f' : Finished) (steps : List Step) → FinishAllows p f → f.number ≡ 0
    → Leads f.pieces steps q → FinishAllows q f' → Stays 8 f.pieces steps q × (f' ≡ refused_finish 8 f.pieces)

-- A begin that refused, also one of the suites 3 and 4: its number answers every piece, which stays as it was, and the finish.
abbrev pub RefusedBeginAnswersAll : Type 0
RefusedBeginAnswersAll = (suite : ℕ) (key nonce ad : List ℕ) (begun p : Pieces) (steps : List Step) (f : Finished)
    → BeginAllows suite key nonce ad begun → (begun.number ≡ 0 → ⊥) → Leads begun steps p → FinishAllows p f
    → Stays begun.number begun steps p × (f ≡ refused_finish begun.number begun)

-- ---- states

-- Every state that a begin and pieces give is what the pieces taken so far come to, and its rounds, bytes and rows are within their bounds.
pub record Holds (key nonce ad message : List ℕ) (p : Pieces) : Type 0 where
  pub is_held : p ≡ held (expanded key) nonce ad message (pick (eqb (length message % 16) 0) 0 1)
  pub ready : Ready 1 p

abbrev pub HoldsWhatWasTaken : Type 0
HoldsWhatWasTaken = (suite : ℕ) (key nonce ad : List ℕ) (begun p : Pieces) (steps : List Step)
    → BeginAllows suite key nonce ad begun → begun.number ≡ 0 → Leads begun steps p → Holds key nonce ad (taken_given steps) p

-- ---- one outcome for each operation

abbrev pub OneOutcomeByPieces : Type 0
OneOutcomeByPieces =
    ((suite : ℕ) (key nonce ad : List ℕ) (p p' : Pieces) → BeginAllows suite key nonce ad p → BeginAllows suite key nonce ad p' → p ≡ p')
    × ((p : Pieces) (piece : List ℕ) (outcome outcome' : Taking)
    → TakeAllows p piece outcome → TakeAllows p piece outcome' → outcome ≡ outcome')
    × ((p : Pieces) (f f' : Finished) → FinishAllows p f → FinishAllows p f' → f ≡ f')
