-- The definition's answers, case by case.
-- Assumes nothing.
use mathlib.Core.Path.{◌≡◌}
use mathlib.Core.List.{List, [], append-nil}
use Prim.Native.Nat.{ℕ, ◌+◌, ◌/◌, ◌%◌}
use lib.Dec.{eqb}
use lib.ListN.{length, replicate}
use borrow.Author.Tests.{eq-eqb, ne_eqb}
use Rattle.octets.specs.Octets.{pick, zero_block}
use Rattle.tweakey.specs.Tweakey.{expanded}
use Rattle.tweakey.specs.declared.Subkeys.{Subkeys}
use Rattle.modes.specs.Rows.{enciphered, data_rows, absorbed}
use Rattle.deoxys_i.specs.DeoxysI.{message_rows, checksum_of, summed, rows_from, text_from}
use Rattle.pieces.specs.declared.Pieces.{Pieces}
use Rattle.pieces.specs.declared.Finished.{Finished}
use Rattle.pieces.specs.ByPieces.{held, void, begin_refusal, beginning, state_refusal, take_refusal, Taking, piece_text, took, taking, finished, finishing}

module _ (suite : ℕ) (key nonce ad : List ℕ) where
  abbrev number : ℕ
  number = begin_refusal suite (length key) (length nonce) (length ad)

  pub begin_refused : (number ≡ 0 → ⊥) → void number ≡ beginning suite key nonce ad
  unfolding beginning
  begin_refused h = simp (ne_eqb _ _ h)

  pub begin_done : number ≡ 0 → held (expanded key) nonce ad [] 0 ≡ beginning suite key nonce ad
  unfolding beginning
  begin_done e = simp (eq-eqb _ _ e)

pub nothing_taken : (k : Subkeys) (nonce ad : List ℕ)
    → ◌≡◌ {A = Pieces}
    (record {
      number = 0;
      stage = 0;
      keys = k;
      nonce = nonce;
      auth = absorbed zero_block (data_rows k ad);
      checksum = replicate 16 0;
      total = 0;
      count = record { rows = length (data_rows k ad) };
    })
    (held k nonce ad [] 0)
unfolding message_rows checksum_of zero_block
nothing_taken k nonce ad = simp append-nil

module _ (p : Pieces) (piece : List ℕ) where
  -- with the number of the first block and the total as the code has them
  pub took_is : (first total : ℕ) → first ≡ p.total / 16 → total ≡ p.total + length piece
      → ◌≡◌ {A = Pieces}
      (record {
        number = p.number;
        stage = pick (eqb (length piece % 16) 0) 0 1;
        keys = p.keys;
        nonce = p.nonce;
        auth = p.auth;
        checksum = summed p.checksum piece;
        total = total;
        count = record { rows = p.count.rows + length (rows_from first (enciphered p.keys) p.keys p.nonce piece) };
      })
      (took p piece)
  unfolding took
  took_is first total e h = rw (e, h)

  pub text_is : (first : ℕ) → first ≡ p.total / 16
      → text_from first (enciphered p.keys) p.keys p.nonce piece ≡ piece_text p piece
  text_is first e = rw e

  pub take-refused : (take_refusal p (length piece) ≡ 0 → ⊥)
      → ◌≡◌ {A = Taking} (record { answer = record { pieces = p; number = take_refusal p (length piece) }; piece = piece }) (taking p piece)
  unfolding taking
  take-refused h = simp (ne_eqb _ _ h)

  pub take_done : take_refusal p (length piece) ≡ 0
      → ◌≡◌ {A = Taking} (record { answer = record { pieces = took p piece; number = 0 }; piece = piece_text p piece }) (taking p piece)
  unfolding taking
  take_done e = simp (eq-eqb _ _ e)

module _ (p : Pieces) where
  pub finish_refused : (state_refusal p 1 ≡ 0 → ⊥)
      → ◌≡◌ {A = Finished} (record { pieces = p; number = state_refusal p 1; tag = zero_block; rows = 0 }) (finishing p)
  unfolding finishing
  finish_refused h = simp (ne_eqb _ _ h)

  pub finish_done : state_refusal p 1 ≡ 0 → finished p ≡ finishing p
  unfolding finishing
  finish_done e = simp (eq-eqb _ _ e)
