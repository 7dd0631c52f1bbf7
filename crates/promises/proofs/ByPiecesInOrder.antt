-- Sealing by pieces refuses in order: proofs of the statements of specs/ByPieces on the numbers, and on what is refused for good.
-- Assumes nothing.
use mathlib.Core.Path.{◌≡◌, refl, sym, ap, ◌∙◌, subst}
use mathlib.Core.Bool.{Bool, true, false}
use mathlib.Core.List.{List, []}
use Prim.Native.Nat.{ℕ, suc, ◌≤◌}
use native.Mathlib.Nat.{suc-ne-zero}
use native.Mathlib.Omega.{arith}
use lib.Dec.{leb, lit≤, lit<}
use lib.ListN.{length}
use borrow.Author.Tests.{leb-true, leb-false}
use Rattle.octets.specs.Octets.{pick, zero_block}
use Rattle.suites.specs.Suites.{refusal}
use Rattle.pieces.specs.declared.Pieces.{Pieces}
use Rattle.pieces.specs.declared.Finished.{Finished}
use Rattle.pieces.specs.ByPieces.{begin_refusal, sound, state_refusal, take_refusal, Taking, finished, BeginAllows, TakeAllows, FinishAllows}
use Rattle.pieces.proofs.Refusals.{bounds, bounded, past, none, unsound, stands_first, too_long, taken}
use Rattle.promises.specs.Refusals.{Fault}
use Rattle.promises.specs.ByPieces.{
  BeginFault,
  BeginsInOrder,
  Ready,
  TakesInOrder,
  FinishesInOrder,
  RefusedInOrderByPieces,
  OneOutcomeByPieces,
}
use Rattle.promises.proofs.InOrder.{Verdict, ordered, within, by_lengths}
use Rattle.promises.proofs.PieceViews.{
  TakeView,
  take_view,
  FinishView,
  finish_view,
  BeginView,
  begin_view,
  no_state,
  no_taking,
}

-- ---- the numbers in their order

begin_verdict : (suite : ℕ) (key nonce ad : List ℕ) → Verdict (BeginFault suite key nonce ad) (begin_refusal suite (length key) (length nonce) (length ad))
unfolding begin_refusal
begin_verdict suite key nonce ad = by (leb suite 2) refl (by_lengths suite key nonce ad [])
  where
    one_pass : suite ≤ 2 → {n : ℕ} → (Fault suite key nonce ad [] n → ⊥) → BeginFault suite key nonce ad n → ⊥
    one_pass h c (BeginFault.as_one_call f) = c f
    one_pass h c (BeginFault.two_passes l) = omega arith

    from_one : {n : ℕ} → BeginFault suite key nonce ad n → 1 ≤ n
    from_one (BeginFault.as_one_call f) = (within f).0
    from_one (BeginFault.two_passes l) = lit≤ tt

    by : (b : Bool) → leb suite 2 ≡ b → Verdict (Fault suite key nonce ad []) (refusal suite (length key) (length nonce) (length ad) 0)
        → Verdict (BeginFault suite key nonce ad) (pick b (refusal suite (length key) (length nonce) (length ad) 0) 1)
    by true e (Verdict.none z c) = Verdict.none z (λ n. one_pass (leb-true suite 2 e) (c n))
    by true e (Verdict.first h f) =
        Verdict.first h
        (record { applies = BeginFault.as_one_call f.applies; none_before = λ m l. one_pass (leb-true suite 2 e) (f.none_before m l) })
    by false e v =
        Verdict.first (lit< tt)
        (record { applies = BeginFault.two_passes (leb-false suite 2 e); none_before = λ m l f. omega (arith, l, from_one f) })

begins_in_order : (suite : ℕ) (key nonce ad : List ℕ) (begun : Pieces) → BeginAllows suite key nonce ad begun → BeginsInOrder suite key nonce ad begun
begins_in_order suite key nonce ad begun a = by (begin_view a)
  where
    by : BeginView suite key nonce ad begun → BeginsInOrder suite key nonce ad begun
    by (BeginView.refused h e) =
        rw e (record { numbered = ordered (begin_verdict suite key nonce ad); refused = λ r. refl; done = λ z. absurd (h z) })
    by (BeginView.done z short e) =
        rw e
        (record {
          numbered = ordered (subst (Verdict (BeginFault suite key nonce ad)) z (begin_verdict suite key nonce ad));
          refused = λ r. absurd (r refl);
          done = λ z. refl;
        })

-- what a state needs beside begin's number
module _ (p : Pieces) (last : ℕ) where
  stands_ready : p.number ≡ 0 → Ready last p → 0 ≡ state_refusal p last
  stands_ready z r =
      none p last z r.in_time (bounded {p = p} (record { few_bytes = r.few_bytes; few_rows = r.few_rows; of_a_key = r.of_a_key }))

  stands_not : p.number ≡ 0 → (Ready last p → ⊥) → state_refusal p last ≡ 8
  stands_not z h = by (leb p.stage last) (sound p) refl refl
    where
      by : (a b : Bool) → leb p.stage last ≡ a → sound p ≡ b → state_refusal p last ≡ 8
      by false b e s = sym (past p last z (leb-false _ _ e))
      by true false e s = sym (unsound p last z (leb-true _ _ e) s)
      by true true e s =
          let g = bounds p s in
          absurd (h (record { in_time = leb-true _ _ e; few_bytes = g.few_bytes; few_rows = g.few_rows; of_a_key = g.of_a_key }))

refused_with : {x n : ℕ} → x ≡ suc n → x ≡ 0 → ⊥
refused_with {x} {n} e z = suc-ne-zero n (sym e ∙ z)

takes_in_order : (p : Pieces) (piece : List ℕ) (outcome : Taking) → TakeAllows p piece outcome → TakesInOrder p piece outcome
takes_in_order p piece outcome a = record {
  first_of_all = λ h. number ∙ no_taking p h (length piece);
  then_8 = λ z h. let e = stands_not p 0 z h in number ∙ sym (stands_first p (length piece) (refused_with e)) ∙ e;
  then_5 = λ z r l. number ∙ sym (too_long p (length piece) (sym (stands_ready p 0 z r)) l);
  done = λ z r l. number ∙ sym (taken p (length piece) (sym (stands_ready p 0 z r)) l);
  refused = λ h. unchanged h (take_view a);
}
  where
    by : TakeView p piece outcome → outcome.answer.number ≡ take_refusal p (length piece)
    by (TakeView.refused h e) = ap (λ (o : Taking). o.answer.number) e
    by (TakeView.done z e) = ap (λ (o : Taking). o.answer.number) e ∙ sym z

    number : outcome.answer.number ≡ take_refusal p (length piece)
    number = by (take_view a)

    unchanged : (outcome.answer.number ≡ 0 → ⊥) → TakeView p piece outcome → (outcome.answer.pieces ≡ p) × (outcome.piece ≡ piece)
    unchanged h (TakeView.refused n e) = (ap (λ (o : Taking). o.answer.pieces) e, ap (λ (o : Taking). o.piece) e)
    unchanged h (TakeView.done z e) = absurd (h (ap (λ (o : Taking). o.answer.number) e))

finished_0 : (p : Pieces) → (finished p).number ≡ 0
unfolding finished
finished_0 p = refl

finishes_in_order : (p : Pieces) (f : Finished) → FinishAllows p f → FinishesInOrder p f
finishes_in_order p f a = record {
  first_of_all = λ h. number ∙ no_state p h 1;
  then_8 = λ z h. number ∙ stands_not p 1 z h;
  done = λ z r. number ∙ sym (stands_ready p 1 z r);
  refused = λ h. unchanged h (finish_view a);
}
  where
    by : FinishView p f → f.number ≡ state_refusal p 1
    by (FinishView.refused h e) = ap (λ (x : Finished). x.number) e
    by (FinishView.done z e) = ap (λ (x : Finished). x.number) e ∙ finished_0 p ∙ sym z

    number : f.number ≡ state_refusal p 1
    number = by (finish_view a)

    unchanged : (f.number ≡ 0 → ⊥) → FinishView p f → (f.pieces ≡ p) × (f.tag ≡ zero_block) × (f.rows ≡ 0)
    unchanged h (FinishView.refused n e) =
        (ap (λ (x : Finished). x.pieces) e, ap (λ (x : Finished). x.tag) e, ap (λ (x : Finished). x.rows) e)
    unchanged h (FinishView.done z e) = absurd (h (number ∙ z))

pub refused_in_order_by_pieces : RefusedInOrderByPieces
refused_in_order_by_pieces = (begins_in_order, takes_in_order, finishes_in_order)

pub one_outcome_by_pieces : OneOutcomeByPieces
one_outcome_by_pieces =
    (λ suite key nonce ad p p' a b. a ∙ sym b, λ p piece outcome outcome' a b. a ∙ sym b, λ p f f' a b. a ∙ sym b)
