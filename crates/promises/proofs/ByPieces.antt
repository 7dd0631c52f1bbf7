-- Sealing by pieces is one call: proofs of the statements of specs/ByPieces on what is taken.
-- Assumes nothing.
use mathlib.Core.Path.{◌≡◌, refl, sym, ap, ◌∙◌, subst}
use mathlib.Core.Logic.{◌⊎◌}
use mathlib.Core.List.{List, [], ◌∷◌, ◌++◌}
use Prim.Native.Nat.{ℕ, ◌+◌, ◌≤◌, ◌<◌}
use native.Mathlib.Nat.{suc-ne-zero}
use native.Mathlib.Omega.{arith}
use lib.Dec.{lit≤}
use lib.ListN.{length, length-append}
use borrow.Author.Tests.{le-ltb}
use Rattle.tweakey.specs.Tweakey.{expanded}
use Rattle.tweakey.specs.declared.Subkeys.{Subkeys}
use Rattle.tweakey.proofs.Tweakeys.{rounds_are}
use Rattle.modes.specs.Rows.{enciphered, data_rows}
use Rattle.deoxys_i.specs.DeoxysI.{message_rows, text_of, crypt_rows, crypted, seal_i}
use Rattle.suites.specs.Suites.{refusal}
use Rattle.deoxys.specs.Entry.{Sealing, sealed, sealing}
use Rattle.deoxys.proofs.Answers.{sealed_i, seal_refused, seal_done}
use Rattle.pieces.specs.declared.Pieces.{Pieces}
use Rattle.pieces.specs.declared.Finished.{Finished}
use Rattle.pieces.specs.ByPieces.{held, begin_refusal, state_refusal, take_refusal, Taking, finish_row, finished, TakeAllows, FinishAllows}
use Rattle.pieces.proofs.Refusals.{own_suite, begin_passed, begin_first, past, state_passes, stays_open, closes, stands, stands_first, taken}
use Rattle.promises.specs.Statements.{Returned}
use Rattle.promises.specs.ByPieces.{
  Step,
  Leads,
  given,
  left,
  taken_given,
  taken_left,
  taken_rows,
  WholeButLast,
  Numbered,
  OneCall,
  PiecesAreOneCall,
  RefusedPiecesLeaveNoTrace,
  PiecesMakeTheSameCalls,
  OpensWhatPiecesSealed,
  Stays,
  PartialPieceIsTheLast,
  refused_finish,
  FinishIsTheLast,
  RefusedBeginAnswersAll,
  Holds,
  HoldsWhatWasTaken,
}
use Rattle.promises.proofs.Promises.{round_trip}
use Rattle.promises.proofs.PieceViews.{
  TakeView,
  take_view,
  FinishView,
  finish_view,
  BeginView,
  begin_view,
  no_state,
  no_taking,
  stage_taken,
}
use Rattle.promises.proofs.Running.{Running, ready, Stepped, step, runs, given_skipped, left_skipped, given_added, left_added}

-- ---- begin, finish, and the single call

module _ (suite : ℕ) (key nonce ad message : List ℕ) (mine : suite ≤ 2) (fits : length message ≤ 1048576) where
  alike : refusal suite (length key) (length nonce) (length ad) (length message) ≡ begin_refusal suite (length key) (length nonce) (length ad)
  unfolding refusal
  alike = rw (← own_suite suite (length key) (length nonce) (length ad) mine, le-ltb 1048576 (length message) fits)

  module _ (e : begin_refusal suite (length key) (length nonce) (length ad) ≡ 0) (q : Pieces) (f : Finished) where
    one_call : Running (expanded key) nonce ad message q → FinishAllows q f → length ad ≤ 1048576
        → OneCall (sealing suite key nonce ad message) (crypted (enciphered (expanded key)) (expanded key) nonce message) f
    unfolding seal_i finished
    one_call r a short = by (finish_view a)
      where
        by : FinishView q f → OneCall (sealing suite key nonce ad message) (crypted (enciphered (expanded key)) (expanded key) nonce message) f
        by (FinishView.refused h x) =
            absurd (h (sym (state_passes (ready (expanded key) nonce ad (rounds_are key) short r 1 r.in_time))))
        by (FinishView.done z x) =
            let y = x ∙ ap finished r.is_held in
            rw (y, ← seal_done suite key nonce ad message (alike ∙ e), ← sealed_i suite key nonce ad message mine)
            (record { ciphertext = refl; number = refl; tag = refl; rows = simp length-append (omega arith) })

-- ---- a state that refuses every piece

record Fixed (n : ℕ) (p : Pieces) (steps : List Step) (q : Pieces) : Type 0 where
  stays : Stays n p steps q
  none-given : taken_given steps ≡ []
  none_left : taken_left steps ≡ []

module _ (n : ℕ) (p : Pieces) (all : (bytes : ℕ) → take_refusal p bytes ≡ n) (h : n ≡ 0 → ⊥) where
  fixed : (steps : List Step) (q : Pieces) → Leads p steps q → Fixed n p steps q
  fixed [] q l = record { stays = record { numbered = tt; as_given = refl; at_rest = l }; none-given = refl; none_left = refl }
  fixed (s ∷ steps) q l = by (take_view l.0) (λ e. fixed steps q (subst (λ (x : Pieces). Leads x steps q) e l.1))
    where
      by : TakeView p s.piece s.outcome → (s.outcome.answer.pieces ≡ p → Fixed n p steps q) → Fixed n p (s ∷ steps) q
      by (TakeView.done z e) rest = absurd (h (sym (all (length s.piece)) ∙ z))
      by (TakeView.refused m e) rest =
          let number : s.outcome.answer.number ≡ n = ap (λ (o : Taking). o.answer.number) e ∙ all (length s.piece) in
          let other : s.outcome.answer.number ≡ 0 → ⊥ = λ z. h (sym number ∙ z) in
          let r = rest (ap (λ (o : Taking). o.answer.pieces) e) in
          record {
            stays = record {
              numbered = (number, r.stays.numbered);
              as_given = rw (ap (λ (o : Taking). o.piece) e, r.stays.as_given);
              at_rest = r.stays.at_rest;
            };
            none-given = given_skipped s steps other ∙ r.none-given;
            none_left = left_skipped s steps other ∙ r.none_left;
          }

-- the finish of such a state
finish_refused : (n : ℕ) (p q : Pieces) (f : Finished) → (n ≡ 0 → ⊥) → state_refusal p 1 ≡ n → q ≡ p → FinishAllows q f → f ≡ refused_finish n p
finish_refused n p q f h e r a = by (finish_view (subst (λ (x : Pieces). FinishAllows x f) r a))
  where
    by : FinishView p f → f ≡ refused_finish n p
    by (FinishView.done z x) = absurd (h (sym e ∙ z))
    by (FinishView.refused m x) = rw (x, e)

-- what is past its last piece, or finished
past_all : (p : Pieces) → p.number ≡ 0 → 0 < p.stage → (bytes : ℕ) → take_refusal p bytes ≡ 8
past_all p z h bytes =
    let e = past p 0 z h in sym (stands_first p bytes (λ x. suc-ne-zero 7 (e ∙ x))) ∙ sym e

-- the finish of a state that was refused, beside a call that is refused alike
one_refusal : (suite : ℕ) (key nonce ad message : List ℕ) (p : Pieces) (f : Finished) → (p.number ≡ 0 → ⊥) → FinishAllows p f
    → refusal suite (length key) (length nonce) (length ad) (length message) ≡ p.number
    → OneCall (sealing suite key nonce ad message) message f
one_refusal suite key nonce ad message p f h a e = by (finish_view a)
  where
    by : FinishView p f → OneCall (sealing suite key nonce ad message) message f
    by (FinishView.done z x) = absurd (h (begin_first p 1 h ∙ z))
    by (FinishView.refused n x) =
        rw (x, ← seal_refused suite key nonce ad message (λ z. h (sym e ∙ z)))
        (record { ciphertext = refl; number = no_state p h 1 ∙ sym e; tag = refl; rows = refl })

-- a finish that answers 0 leaves a state that is finished
stage_finished : (p : Pieces) (f : Finished) → FinishAllows p f → f.number ≡ 0 → (f.pieces.stage ≡ 2) × (f.pieces.number ≡ 0)
unfolding finished
stage_finished p f a z = by (finish_view a)
  where
    by : FinishView p f → (f.pieces.stage ≡ 2) × (f.pieces.number ≡ 0)
    by (FinishView.refused h e) = absurd (h (sym (ap (λ (x : Finished). x.number) e) ∙ z))
    by (FinishView.done n e) =
        (ap (λ (x : Finished). x.pieces.stage) e, ap (λ (x : Finished). x.pieces.number) e ∙ (stands p 1 n).begun)

pub refused_begin_answers_all : RefusedBeginAnswersAll
refused_begin_answers_all suite key nonce ad begun p steps f b h l a =
    let still = (fixed begun.number begun (no_taking begun h) h steps p l).stays in
    (still, finish_refused begun.number begun p f h (no_state begun h 1) still.at_rest a)

pub partial_piece_is_the_last : PartialPieceIsTheLast
partial_piece_is_the_last p q piece outcome steps a z part l =
    let s = stage_taken p piece outcome a z in
    let closed = closes (length piece) (omega (arith, part)) in
    (fixed 8 outcome.answer.pieces (past_all _ s.1 (omega (arith, s.0, closed))) (suc-ne-zero 7) steps q l).stays

pub finish_is_the_last : FinishIsTheLast
finish_is_the_last p q f f' steps a z l a' =
    let s = stage_finished p f a z in
    let still = (fixed 8 f.pieces (past_all _ s.1 (omega (arith, s.0))) (suc-ne-zero 7) steps q l).stays in
    (still, finish_refused 8 f.pieces q f' (suc-ne-zero 7) (sym (past f.pieces 1 s.1 (omega (arith, s.0)))) still.at_rest a')

-- ---- any pieces

-- where nothing has been taken yet
abbrev start : (k : Subkeys) (nonce ad : List ℕ) (begun : Pieces) → begun ≡ held k nonce ad [] 0 → Running k nonce ad [] begun
start k nonce ad begun e = record { stage = 0; is_held = e; in_time = lit≤ tt; whole = λ z. refl; part = refl; within = lit≤ tt }

pub refused_pieces_leave_no_trace : RefusedPiecesLeaveNoTrace
unfolding message_rows text_of
refused_pieces_leave_no_trace suite key nonce ad begun p steps f mine b l a = by (begin_view b)
  where
    by : BeginView suite key nonce ad begun → OneCall (sealing suite key nonce ad (taken_given steps)) (taken_left steps) f
    by (BeginView.refused h e) =
        let number : begun.number ≡ begin_refusal suite (length key) (length nonce) (length ad) = ap (λ (q : Pieces). q.number) e in
        let other : begun.number ≡ 0 → ⊥ = λ z. h (sym number ∙ z) in
        let still = fixed begun.number begun (no_taking begun other) other steps p l in
        rw (still.none-given, still.none_left)
        (one_refusal suite key nonce ad [] begun f other (subst (λ (q : Pieces). FinishAllows q f) still.stays.at_rest a)
        (alike suite key nonce ad [] mine (lit≤ tt) ∙ sym number))
    by (BeginView.done e short h) =
        let ran = runs (expanded key) nonce ad (rounds_are key) short steps [] begun p (start (expanded key) nonce ad begun h) l in
        let text : taken_left steps ≡ crypted (enciphered (expanded key)) (expanded key) nonce (taken_given steps) = ran.text in
        rw text (one_call suite key nonce ad (taken_given steps) mine ran.running.within e p f ran.running a short)

pub pieces_make_the_same_calls : PiecesMakeTheSameCalls
unfolding message_rows text_of seal_i
pieces_make_the_same_calls suite key nonce ad begun p steps b z l = by (begin_view b)
  where
    by : BeginView suite key nonce ad begun
        → data_rows (expanded key) ad ++ (taken_rows begun steps ++ (finish_row p ∷ [])) ≡ (sealed suite key nonce ad (taken_given steps)).rows
    by (BeginView.refused h e) = absurd (h (sym (ap (λ (q : Pieces). q.number) e) ∙ z))
    by (BeginView.done e short h) =
        let ran = runs (expanded key) nonce ad (rounds_are key) short steps [] begun p (start (expanded key) nonce ad begun h) l in
        let rows : taken_rows begun steps ≡ crypt_rows (enciphered (expanded key)) (expanded key) nonce (taken_given steps) = ran.rows in
        let last : finish_row p ≡ finish_row (held (expanded key) nonce ad (taken_given steps) 0) = ap finish_row ran.running.is_held in
        rw (← sealed_i suite key nonce ad (taken_given steps) (begin_passed _ _ _ _ e).0, rows, last)

pub holds_what_was_taken : HoldsWhatWasTaken
holds_what_was_taken suite key nonce ad begun p steps b z l = by (begin_view b)
  where
    by : BeginView suite key nonce ad begun → Holds key nonce ad (taken_given steps) p
    by (BeginView.refused h e) = absurd (h (sym (ap (λ (q : Pieces). q.number) e) ∙ z))
    by (BeginView.done e short h) =
        let r = (runs (expanded key) nonce ad (rounds_are key) short steps [] begun p (start (expanded key) nonce ad begun h) l).running in
        let g = ready (expanded key) nonce ad (rounds_are key) short r 1 r.in_time in
        record {
          is_held = r.is_held ∙ ap (held (expanded key) nonce ad (taken_given steps)) r.part;
          ready = record {
            in_time = g.staged;
            few_bytes = g.within.few_bytes;
            few_rows = g.within.few_rows;
            of_a_key = g.within.of_a_key;
          };
        }

-- ---- allowed cuttings

all_taken : (steps : List Step) → Numbered 0 steps → (taken_given steps ≡ given steps) × (taken_left steps ≡ left steps)
all_taken [] n = (refl, refl)
all_taken (s ∷ steps) n =
    let rest = all_taken steps n.1 in
    (given_added s steps n.0 ∙ ap (◌++◌ s.piece) rest.0, left_added s steps n.0 ∙ ap (◌++◌ s.outcome.piece) rest.1)

module _ (k : Subkeys) (nonce ad : List ℕ) (keyed : (k.rounds ≡ 14) ⊎ (k.rounds ≡ 16)) (short : length ad ≤ 1048576) where
  -- an open state takes a piece that fits
  fitting : (message piece : List ℕ) (p : Pieces) (outcome : Taking) (r : Running k nonce ad message p) → r.stage ≡ 0
      → length message + length piece ≤ 1048576 → TakeAllows p piece outcome → outcome.answer.number ≡ 0
  fitting message piece p outcome r z h a = by (take_view a)
    where
      total : p.total ≡ length message
      total = ap (λ (q : Pieces). q.total) r.is_held

      nothing : take_refusal p (length piece) ≡ 0
      nothing =
          sym (taken p (length piece) (sym (state_passes (ready k nonce ad keyed short r 0 (omega (arith, z))))) (omega (arith, total, h)))

      by : TakeView p piece outcome → outcome.answer.number ≡ 0
      by (TakeView.refused n e) = absurd (n nothing)
      by (TakeView.done z e) = ap (λ (o : Taking). o.answer.number) e

  allowed_taken : (steps : List Step) (message : List ℕ) (p q : Pieces) (r : Running k nonce ad message p) → r.stage ≡ 0
      → WholeButLast steps → length message + length (given steps) ≤ 1048576 → Leads p steps q → Numbered 0 steps
  allowed_taken [] message p q r z w h l = tt
  allowed_taken (s ∷ []) message p q r z w h l =
      (fitting message s.piece p s.outcome r z (let e = length-append s.piece [] in omega (arith, h, e)) l.0, tt)
  allowed_taken (s ∷ t ∷ steps) message p q r z w h l =
      let e = length-append s.piece (given (t ∷ steps)) in
      let n = fitting message s.piece p s.outcome r z (omega (arith, h, e)) l.0 in
      by n (step k nonce ad keyed short r l.0)
      (λ r' z'. allowed_taken (t ∷ steps) (message ++ s.piece) s.outcome.answer.pieces q r' z' w.1
      (let a = length-append message s.piece in omega (arith, h, e, a)) l.1)
    where
      by : s.outcome.answer.number ≡ 0 → Stepped k nonce ad message s.piece p s.outcome
          → ((r' : Running k nonce ad (message ++ s.piece) s.outcome.answer.pieces) → r'.stage ≡ 0 → Numbered 0 (t ∷ steps))
          → Numbered 0 (s ∷ t ∷ steps)
      by n (Stepped.stood h e) rest = absurd (h n)
      by n (Stepped.grew y whole r' x c) rest = (
        n,
        rest r' (sym (ap (λ (q : Pieces). q.stage) r'.is_held) ∙ (stage_taken p s.piece s.outcome l.0 n).0 ∙ sym (stays_open (length s.piece) (omega (arith, w.0)))),
      )

pub pieces_are_one_call : PiecesAreOneCall
pieces_are_one_call suite key nonce ad begun p steps f mine b l a c = by (begin_view b)
  where
    by : BeginView suite key nonce ad begun → OneCall (sealing suite key nonce ad (given steps)) (left steps) f
        × Numbered (sealing suite key nonce ad (given steps)).answer.number steps
    by (BeginView.refused h e) =
        let number : begun.number ≡ begin_refusal suite (length key) (length nonce) (length ad) = ap (λ (q : Pieces). q.number) e in
        let other : begun.number ≡ 0 → ⊥ = λ z. h (sym number ∙ z) in
        let still = fixed begun.number begun (no_taking begun other) other steps p l in
        let as_call = alike suite key nonce ad (given steps) mine (omega (arith, c.within)) ∙ sym number in
        let answers = ap (λ (s : Sealing). s.answer.number) (seal_refused suite key nonce ad (given steps) (λ z. other (sym as_call ∙ z))) in (
          rw still.stays.as_given
              (one_refusal suite key nonce ad (given steps) begun f other (subst (λ (q : Pieces). FinishAllows q f) still.stays.at_rest a) as_call),
          subst (λ (n : ℕ). Numbered n steps) (sym as_call ∙ answers) still.stays.numbered,
        )
    by (BeginView.done e short h) =
        let first = start (expanded key) nonce ad begun h in
        let numbers = allowed_taken (expanded key) nonce ad (rounds_are key) short steps [] begun p first refl c.whole_but_last
        (omega (arith, c.within)) l in
        let same = all_taken steps numbers in
        let as_call = alike suite key nonce ad (given steps) mine (omega (arith, c.within)) ∙ e in
        let answers = ap (λ (s : Sealing). s.answer.number) (seal_done suite key nonce ad (given steps) as_call) in (
          rw (same.0, same.1) at (refused_pieces_leave_no_trace suite key nonce ad begun p steps f mine b l a),
          subst (λ (n : ℕ). Numbered n steps) answers numbers,
        )

pub opens_what_pieces_sealed : OpensWhatPiecesSealed
opens_what_pieces_sealed suite key nonce ad begun p steps f o g bytes b z l a c t = by (begin_view b)
  where
    by : BeginView suite key nonce ad begun → Returned (given steps) o
    by (BeginView.refused h e) = absurd (h (sym (ap (λ (q : Pieces). q.number) e) ∙ z))
    by (BeginView.done e short h) =
        let mine = (begin_passed _ _ _ _ e).0 in
        let call = (pieces_are_one_call suite key nonce ad begun p steps f mine b l a c).0 in
        let as_call = alike suite key nonce ad (given steps) mine (omega (arith, c.within)) ∙ e in
        let answers = sym (ap (λ (s : Sealing). s.answer.number) (seal_done suite key nonce ad (given steps) as_call)) in
        round_trip suite key nonce ad (given steps) (sealing suite key nonce ad (given steps)) o g bytes refl answers
        (rw (call.ciphertext, call.tag) at t)
