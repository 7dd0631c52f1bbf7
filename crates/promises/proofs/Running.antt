-- A state that calls gave is the definition's for the message that was taken (`Running`): one piece more is one message more (`grown`), and
-- any pieces are those that were taken, joined (`runs`).
-- Assumes nothing.
use mathlib.Core.Path.{◌≡◌, refl, sym, ap, ◌∙◌, subst}
use mathlib.Core.Bool.{Bool, true, false}
use mathlib.Core.Logic.{◌⊎◌}
use mathlib.Core.List.{List, [], ◌∷◌, ◌++◌, append_assoc, append-nil}
use Prim.Native.Nat.{ℕ, ◌+◌, ◌/◌, ◌%◌, ◌≤◌}
use native.Mathlib.Nat.{suc-ne-zero}
use native.Mathlib.Omega.{arith}
use lib.Dec.{eqb, lit≤}
use lib.ListN.{length, length-append}
use borrow.Author.Tests.{eq-eqb, ne_eqb, eqb-true}
use Rattle.octets.specs.Octets.{pick}
use Rattle.tweakey.specs.declared.Subkeys.{Subkeys}
use Rattle.modes.specs.Rows.{Row, enciphered, data_rows}
use Rattle.modes.proofs.Counts.{auth_count}
use Rattle.deoxys_i.specs.DeoxysI.{rows_from, text_from, crypt_rows, crypted}
use Rattle.deoxys_i.proofs.Counts.{crypt_count}
use Rattle.pieces.specs.declared.Pieces.{Pieces}
use Rattle.pieces.specs.ByPieces.{held, Taking, piece_rows, piece_text, took, TakeAllows}
use Rattle.pieces.proofs.Refusals.{Stands, stands, take_passed}
use Rattle.promises.specs.ByPieces.{Step, Leads, taken_given, taken_left, taken_rows}
use Rattle.promises.proofs.Joined.{sum_joined, rows_joined, text_joined}
use Rattle.promises.proofs.PieceViews.{TakeView, take_view}

module _ (k : Subkeys) (nonce ad message piece : List ℕ) (whole : length message % 16 ≡ 0) where
  rows_grown : length (data_rows k ad ++ crypt_rows (enciphered k) k nonce (message ++ piece))
      ≡ length (data_rows k ad ++ crypt_rows (enciphered k) k nonce message) + length (rows_from (length message / 16) (enciphered k) k nonce piece)
  rows_grown = rw (rows_joined message piece whole (enciphered k) k nonce) (simp length-append (omega arith))

  grown : (stage : ℕ) → took (held k nonce ad message stage) piece ≡ held k nonce ad (message ++ piece) (pick (eqb (length piece % 16) 0) 0 1)
  unfolding took
  grown stage = rw (rows_grown, sum_joined message piece whole, length-append message piece)

-- a state that calls gave, when this much has been taken
pub record Running (k : Subkeys) (nonce ad message : List ℕ) (p : Pieces) : Type 0 where
  pub stage : ℕ
  pub is_held : p ≡ held k nonce ad message stage
  pub in_time : stage ≤ 1
  pub whole : stage ≡ 0 → length message % 16 ≡ 0
  pub part : stage ≡ pick (eqb (length message % 16) 0) 0 1
  pub within : length message ≤ 1048576

-- the stage after a piece
after_time : (b : Bool) → pick b 0 1 ≤ 1
after_time true = lit≤ tt
after_time false = lit≤ tt

after_open : (b : Bool) → ◌≡◌ {A = ℕ} (pick b 0 1) 0 → b ≡ true
after_open true e = refl
after_open false e = absurd (suc-ne-zero 0 e)

-- what a piece does to such a state
pub data Stepped (k : Subkeys) (nonce ad message piece : List ℕ) (p : Pieces) (outcome : Taking) : Type 0 where
  stood : (outcome.answer.number ≡ 0 → ⊥) → outcome.answer.pieces ≡ p → Stepped k nonce ad message piece p outcome
  grew : outcome.answer.number ≡ 0 → length message % 16 ≡ 0 → Running k nonce ad (message ++ piece) outcome.answer.pieces
      → outcome.piece ≡ text_from (length message / 16) (enciphered k) k nonce piece
      → piece_rows p piece ≡ rows_from (length message / 16) (enciphered k) k nonce piece → Stepped k nonce ad message piece p outcome

-- what pieces do to it: this was given, this was left of it, and these calls were made
pub record Ran (k : Subkeys) (nonce ad message : List ℕ) (q : Pieces) (more cipher : List ℕ) (calls : List Row) : Type 0 where
  pub running : Running k nonce ad (message ++ more) q
  pub text : crypted (enciphered k) k nonce message ++ cipher ≡ crypted (enciphered k) k nonce (message ++ more)
  pub rows : crypt_rows (enciphered k) k nonce message ++ calls ≡ crypt_rows (enciphered k) k nonce (message ++ more)

-- a step in what was taken
module _ (s : Step) (steps : List Step) where
  rows_skipped : (p : Pieces) → (s.outcome.answer.number ≡ 0 → ⊥) → taken_rows p (s ∷ steps) ≡ taken_rows s.outcome.answer.pieces steps
  rows_skipped p h = rw (ne_eqb _ _ h)

  rows_added : (p : Pieces) → s.outcome.answer.number ≡ 0
      → taken_rows p (s ∷ steps) ≡ piece_rows p s.piece ++ taken_rows s.outcome.answer.pieces steps
  rows_added p e = rw (eq-eqb _ _ e)

  pub given_skipped : (s.outcome.answer.number ≡ 0 → ⊥) → taken_given (s ∷ steps) ≡ taken_given steps
  given_skipped h = rw (ne_eqb _ _ h)

  pub left_skipped : (s.outcome.answer.number ≡ 0 → ⊥) → taken_left (s ∷ steps) ≡ taken_left steps
  left_skipped h = rw (ne_eqb _ _ h)

  pub given_added : s.outcome.answer.number ≡ 0 → taken_given (s ∷ steps) ≡ s.piece ++ taken_given steps
  given_added e = rw (eq-eqb _ _ e)

  pub left_added : s.outcome.answer.number ≡ 0 → taken_left (s ∷ steps) ≡ s.outcome.piece ++ taken_left steps
  left_added e = rw (eq-eqb _ _ e)

module _ (k : Subkeys) (nonce ad : List ℕ) (keyed : (k.rounds ≡ 14) ⊎ (k.rounds ≡ 16)) (short : length ad ≤ 1048576) where
  all_rows : (message : List ℕ) → length (data_rows k ad ++ crypt_rows (enciphered k) k nonce message) ≡ (length ad + 15) / 16 + (length message + 15) / 16
  all_rows message = rw (length-append, auth_count k 32 96 ad, crypt_count (enciphered k) k nonce message)

  -- the state refuses nothing up to a stage that its own is not past
  pub ready : {message : List ℕ} {p : Pieces} (r : Running k nonce ad message p) (last : ℕ) → r.stage ≤ last → Stands p last
  ready {message} {p} r last h =
      subst (λ (q : Pieces). Stands q last) (sym r.is_held)
      (record {
        begun = refl;
        staged = h;
        within = record { few_bytes = r.within; few_rows = omega (arith, all_rows message, short, r.within); of_a_key = keyed };
      })

  pub step : {message piece : List ℕ} {p : Pieces} {outcome : Taking} → Running k nonce ad message p → TakeAllows p piece outcome
      → Stepped k nonce ad message piece p outcome
  step {message} {piece} {p} {outcome} r a = by (take_view a)
    where
      by : TakeView p piece outcome → Stepped k nonce ad message piece p outcome
      by (TakeView.refused h e) =
          Stepped.stood (λ z. h (sym (ap (λ (o : Taking). o.answer.number) e) ∙ z)) (ap (λ (o : Taking). o.answer.pieces) e)
      by (TakeView.done z e) =
          let passed = take_passed p (length piece) z in
          let stage : p.stage ≡ r.stage = ap (λ (q : Pieces). q.stage) r.is_held in
          let total : p.total ≡ length message = ap (λ (q : Pieces). q.total) r.is_held in
          let whole = r.whole (omega (arith, stage, (stands p 0 passed.0).staged)) in
          Stepped.grew (ap (λ (o : Taking). o.answer.number) e) whole
          (record {
            stage = pick (eqb (length piece % 16) 0) 0 1;
            is_held =
                ap (λ (o : Taking). o.answer.pieces) e ∙ ap (λ (q : Pieces). took q piece) r.is_held
                ∙ grown k nonce ad message piece whole r.stage;
            in_time = after_time (eqb (length piece % 16) 0);
            whole = λ o. let l = eqb-true (length piece % 16) 0 (after_open _ o) in rw length-append (omega arith);
            part = let l : length (message ++ piece) % 16 ≡ length piece % 16 = rw length-append (omega (arith, whole)) in rw l;
            within = rw length-append (omega (arith, total, passed.1));
          })
          (ap (λ (o : Taking). o.piece) e ∙ ap (λ (q : Pieces). piece_text q piece) r.is_held)
          (ap (λ (q : Pieces). piece_rows q piece) r.is_held)

  pub runs : (steps : List Step) (message : List ℕ) (p q : Pieces) → Running k nonce ad message p → Leads p steps q
      → Ran k nonce ad message q (taken_given steps) (taken_left steps) (taken_rows p steps)
  runs [] message p q r l = record {
    running = rw append-nil (subst (Running k nonce ad message) (sym l) r);
    text = rw (append-nil message) (append-nil (crypted (enciphered k) k nonce message));
    rows = rw (append-nil message) (append-nil (crypt_rows (enciphered k) k nonce message));
  }
  runs (s ∷ steps) message p q r l = by (step r l.0) (λ m r'. runs steps m s.outcome.answer.pieces q r' l.1)
    where
      -- what the message makes, then what the piece makes, and then the rest
      joins : {A : Type 0} (make : List ℕ → List A) (mine piece : List A) (rest : List A) → piece ≡ mine
          → make (message ++ s.piece) ≡ make message ++ mine → make (message ++ s.piece) ++ rest ≡ make ((message ++ s.piece) ++ taken_given steps)
          → make message ++ (piece ++ rest) ≡ make (message ++ (s.piece ++ taken_given steps))
      joins make mine piece rest e j h =
          rw (e, ← append_assoc (make message) mine rest, ← j, ← append_assoc message s.piece (taken_given steps)) h

      by : Stepped k nonce ad message s.piece p s.outcome
          → ((m : List ℕ) → Running k nonce ad m s.outcome.answer.pieces
          → Ran k nonce ad m q (taken_given steps) (taken_left steps) (taken_rows s.outcome.answer.pieces steps))
          → Ran k nonce ad message q (taken_given (s ∷ steps)) (taken_left (s ∷ steps)) (taken_rows p (s ∷ steps))
      by (Stepped.stood h e) rest =
          rw (given_skipped s steps h, left_skipped s steps h, rows_skipped s steps p h)
          (rest message (subst (Running k nonce ad message) (sym e) r))
      by (Stepped.grew z whole r' t c) rest =
          let ran = rest (message ++ s.piece) r' in
          rw (given_added s steps z, left_added s steps z, rows_added s steps p z)
          (record {
            running = rw append_assoc at ran.running;
            text = joins (crypted (enciphered k) k nonce) _ _ _ t (text_joined message s.piece whole (enciphered k) k nonce) ran.text;
            rows = joins (crypt_rows (enciphered k) k nonce) _ _ _ c (rows_joined message s.piece whole (enciphered k) k nonce) ran.rows;
          })
