-- Sealing Deoxys-I by pieces: document 02, request a. It has no rule of the cipher of its own: what a piece becomes, its rows, the checksum
-- and the tag's row are those of crates/deoxys_i/specs/DeoxysI, and the state holds what these come to for what has been taken so far.
-- Assumes nothing.
use Rattle.std.specs.Prelude.{◌≡◌, Bool, true, false, List, [], ◌++◌, ℕ, ◌+◌, ◌/◌, ◌%◌, eqb, leb, ltb, length, replicate}
use Rattle.octets.specs.Octets.{pick, ◌⊕◌, zero_block}
use Rattle.suites.specs.Suites.{is_deoxys_i, limit, refusal}
use Rattle.tweakey.specs.Tweakey.{expanded}
use Rattle.tweakey.specs.declared.Subkeys.{Subkeys}
use Rattle.modes.specs.Rows.{Row, enciphered, data_rows, absorbed}
use Rattle.deoxys_i.specs.DeoxysI.{checksum, summed, sum_row, rows_from, text_from, crypt_rows}
use Rattle.pieces.specs.declared.Pieces.{Pieces}
use Rattle.pieces.specs.declared.Taken.{Taken}
use Rattle.pieces.specs.declared.Finished.{Finished}

-- ---- begin

-- the state when this much of a message has been taken. Its stage: 0 takes pieces, 1 was closed by a piece that is no multiple of 16 bytes,
-- 2 is finished, as is every greater number
abbrev pub held : Subkeys → List ℕ → List ℕ → List ℕ → ℕ → Pieces
held k nonce ad message stage = record {
  number = 0;
  stage = stage;
  keys = k;
  nonce = nonce;
  auth = absorbed zero_block (data_rows k ad);
  checksum = checksum message;
  total = length message;
  count = record { rows = length (data_rows k ad ++ crypt_rows (enciphered k) k nonce message) };
}

-- the state of a refused begin: its number, and zero in all else
abbrev pub void : ℕ → Pieces
void number = record {
  number = number;
  stage = 0;
  keys = record { bytes = replicate 272 0; rounds = 0 };
  nonce = replicate 8 0;
  auth = zero_block;
  checksum = zero_block;
  total = 0;
  count = record { rows = 0 };
}

-- the numbers 1 to 4 of document 01 by suite and lengths, and 1 for the suites 3 and 4, which need two passes; or 0
unfoldable pub begin_refusal : ℕ → ℕ → ℕ → ℕ → ℕ
begin_refusal suite key nonce ad = pick (is_deoxys_i suite) (refusal suite key nonce ad 0) 1

unfoldable pub beginning : ℕ → List ℕ → List ℕ → List ℕ → Pieces
beginning suite key nonce ad =
    pick (eqb (begin_refusal suite (length key) (length nonce) (length ad)) 0) (held (expanded key) nonce ad [] 0)
    (void (begin_refusal suite (length key) (length nonce) (length ad)))

-- ---- what refuses a piece and the finish

-- what holds of every state that a begin and its pieces gave, before the finish: no more bytes than the limit, no more rows than data and
-- message at the limit have, 65,536 each, and the rounds of an expanded key
abbrev pub sound : Pieces → Bool
sound p =
    pick (leb p.total limit)
    (pick (leb p.count.rows 131072) (pick (eqb p.keys.rounds 14) true (eqb p.keys.rounds 16)) false) false

-- begin's number first of all; then 8 where the state is past this stage, or not sound; or 0
unfoldable pub state_refusal : Pieces → ℕ → ℕ
state_refusal p last = pick (eqb p.number 0) (pick (pick (leb p.stage last) (sound p) false) 0 8) p.number

-- and then 5 where the total is above the limit
unfoldable pub take_refusal : Pieces → ℕ → ℕ
take_refusal p bytes = pick (eqb (state_refusal p 0) 0) (pick (ltb limit (p.total + bytes)) 5 0) (state_refusal p 0)

-- ---- take a piece

-- an answer, and the piece at the end
pub record Taking : Type 0 where
  pub answer : Taken
  pub piece : List ℕ

-- the first block of a piece has the number of the blocks taken before it
abbrev pub piece_rows : Pieces → List ℕ → List Row
piece_rows p piece = rows_from (p.total / 16) (enciphered p.keys) p.keys p.nonce piece

abbrev pub piece_text : Pieces → List ℕ → List ℕ
piece_text p piece = text_from (p.total / 16) (enciphered p.keys) p.keys p.nonce piece

-- the state after a piece that nothing refuses
unfoldable pub took : Pieces → List ℕ → Pieces
took p piece = record {
  number = p.number;
  stage = pick (eqb (length piece % 16) 0) 0 1;
  keys = p.keys;
  nonce = p.nonce;
  auth = p.auth;
  checksum = summed p.checksum piece;
  total = p.total + length piece;
  count = record { rows = p.count.rows + length (piece_rows p piece) };
}

-- refused: state and piece as they stood
unfoldable pub taking : Pieces → List ℕ → Taking
taking p piece =
    pick (eqb (take_refusal p (length piece)) 0) (record { answer = record { pieces = took p piece; number = 0 }; piece = piece_text p piece })
    (record { answer = record { pieces = p; number = take_refusal p (length piece) }; piece = piece })

-- ---- finish

-- the tag's row is the last
abbrev pub finish_row : Pieces → Row
finish_row p = sum_row p.keys p.nonce p.total p.checksum

-- all rows are counted
unfoldable pub finished : Pieces → Finished
finished p = record {
  pieces = record {
    number = p.number;
    stage = 2;
    keys = p.keys;
    nonce = p.nonce;
    auth = p.auth;
    checksum = p.checksum;
    total = p.total;
    count = record { rows = p.count.rows + 1 };
  };
  number = 0;
  tag = p.auth ⊕ (finish_row p).to;
  rows = p.count.rows + 1;
}

-- refused: the state as it stood, 16 zero bytes as tag, no rows
unfoldable pub finishing : Pieces → Finished
finishing p =
    pick (eqb (state_refusal p 1) 0) (finished p) (record { pieces = p; number = state_refusal p 1; tag = zero_block; rows = 0 })

-- ---- the contracts of `begin`, `take` and `finish`: an outcome is allowed where it is the definition's

abbrev pub BeginAllows : ℕ → List ℕ → List ℕ → List ℕ → Pieces → Type 0
BeginAllows suite key nonce ad outcome = outcome ≡ beginning suite key nonce ad

abbrev pub TakeAllows : Pieces → List ℕ → Taking → Type 0
TakeAllows p piece outcome = outcome ≡ taking p piece

abbrev pub FinishAllows : Pieces → Finished → Type 0
FinishAllows p outcome = outcome ≡ finishing p
