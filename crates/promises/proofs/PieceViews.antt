-- The two ways a begin, a piece and a finish can go, each with what it answers.
-- Assumes nothing.
use mathlib.Core.Path.{◌≡◌, sym, ap, ◌∙◌}
use mathlib.Core.List.{List, []}
use Prim.Native.Nat.{ℕ, ◌%◌, ◌≤◌}
use lib.Dec.{eqb}
use lib.ListN.{length}
use Rattle.octets.specs.Octets.{pick, zero_block}
use Rattle.tweakey.specs.Tweakey.{expanded}
use Rattle.suites.proofs.Refusals.{good}
use Rattle.pieces.specs.declared.Pieces.{Pieces}
use Rattle.pieces.specs.declared.Finished.{Finished}
use Rattle.pieces.specs.ByPieces.{
  held,
  void,
  begin_refusal,
  state_refusal,
  take_refusal,
  Taking,
  piece_text,
  took,
  finished,
  BeginAllows,
  TakeAllows,
  FinishAllows,
}
use Rattle.pieces.proofs.Refusals.{begin_passed, begin_first, stands, stands_first, take_passed}
use Rattle.pieces.proofs.Answers as Answers
use Rattle.promises.proofs.Views.{Decided, decided}

pub data TakeView (p : Pieces) (piece : List ℕ) (outcome : Taking) : Type 0 where
  refused : (take_refusal p (length piece) ≡ 0 → ⊥)
      → outcome ≡ record { answer = record { pieces = p; number = take_refusal p (length piece) }; piece = piece } → TakeView p piece outcome
  done : take_refusal p (length piece) ≡ 0
      → outcome ≡ record { answer = record { pieces = took p piece; number = 0 }; piece = piece_text p piece } → TakeView p piece outcome

pub take_view : {p : Pieces} {piece : List ℕ} {outcome : Taking} → TakeAllows p piece outcome → TakeView p piece outcome
take_view {p} {piece} {outcome} a = by (decided (take_refusal p (length piece)) 0)
  where
    by : Decided (take_refusal p (length piece)) 0 → TakeView p piece outcome
    by (Decided.equal e) = TakeView.done e (a ∙ sym (Answers.take_done p piece e))
    by (Decided.other h) = TakeView.refused h (a ∙ sym (Answers.take-refused p piece h))

pub data FinishView (p : Pieces) (f : Finished) : Type 0 where
  refused : (state_refusal p 1 ≡ 0 → ⊥) → f ≡ record { pieces = p; number = state_refusal p 1; tag = zero_block; rows = 0 } → FinishView p f
  done : state_refusal p 1 ≡ 0 → f ≡ finished p → FinishView p f

pub finish_view : {p : Pieces} {f : Finished} → FinishAllows p f → FinishView p f
finish_view {p} {f} a = by (decided (state_refusal p 1) 0)
  where
    by : Decided (state_refusal p 1) 0 → FinishView p f
    by (Decided.equal e) = FinishView.done e (a ∙ sym (Answers.finish_done p e))
    by (Decided.other h) = FinishView.refused h (a ∙ sym (Answers.finish_refused p h))

pub data BeginView (suite : ℕ) (key nonce ad : List ℕ) (begun : Pieces) : Type 0 where
  refused : (begin_refusal suite (length key) (length nonce) (length ad) ≡ 0 → ⊥)
      → begun ≡ void (begin_refusal suite (length key) (length nonce) (length ad)) → BeginView suite key nonce ad begun
  done : begin_refusal suite (length key) (length nonce) (length ad) ≡ 0 → length ad ≤ 1048576
      → begun ≡ held (expanded key) nonce ad [] 0 → BeginView suite key nonce ad begun

pub begin_view : {suite : ℕ} {key nonce ad : List ℕ} {begun : Pieces} → BeginAllows suite key nonce ad begun → BeginView suite key nonce ad begun
begin_view {suite} {key} {nonce} {ad} {begun} a = by (decided (begin_refusal suite (length key) (length nonce) (length ad)) 0)
  where
    by : Decided (begin_refusal suite (length key) (length nonce) (length ad)) 0 → BeginView suite key nonce ad begun
    by (Decided.equal e) =
        BeginView.done e (good _ _ _ _ _ (begin_passed _ _ _ _ e).1).ad_fits (a ∙ sym (Answers.begin_done suite key nonce ad e))
    by (Decided.other h) = BeginView.refused h (a ∙ sym (Answers.begin_refused suite key nonce ad h))

-- ---- a state that begin refused

module _ (p : Pieces) (h : p.number ≡ 0 → ⊥) where
  pub no_state : (last : ℕ) → state_refusal p last ≡ p.number
  no_state last = sym (begin_first p last h)

  pub no_taking : (bytes : ℕ) → take_refusal p bytes ≡ p.number
  no_taking bytes = sym (stands_first p bytes (λ e. h (begin_first p 0 h ∙ e))) ∙ no_state 0

-- ---- a state that took a piece

-- what a piece that was taken makes of the stage
pub stage_taken : (p : Pieces) (piece : List ℕ) (outcome : Taking) → TakeAllows p piece outcome → outcome.answer.number ≡ 0
    → (outcome.answer.pieces.stage ≡ pick (eqb (length piece % 16) 0) 0 1) × (outcome.answer.pieces.number ≡ 0)
unfolding took
stage_taken p piece outcome a z = by (take_view a)
  where
    by : TakeView p piece outcome
        → (outcome.answer.pieces.stage ≡ pick (eqb (length piece % 16) 0) 0 1) × (outcome.answer.pieces.number ≡ 0)
    by (TakeView.refused n e) = absurd (n (sym (ap (λ (o : Taking). o.answer.number) e) ∙ z))
    by (TakeView.done n e) = (
      ap (λ (o : Taking). o.answer.pieces.stage) e,
      ap (λ (o : Taking). o.answer.pieces.number) e ∙ (stands p 0 (take_passed p (length piece) n).0).begun,
    )
