-- The numbers are given in their order: the proofs of the statements of specs/Refusals. One law serves every test of the chain.
-- Assumes nothing.
use mathlib.Core.Path.{◌≡◌, refl, sym, ap, ◌∙◌, subst}
use mathlib.Core.Bool.{Bool, true, false, not, false≢true}
use mathlib.Core.List.{List}
use Prim.Native.Nat.{ℕ, suc, ◌≤◌, ◌<◌}
use native.Mathlib.Nat.{zero-lt-suc, pos_of_ne-zero}
use native.Mathlib.Omega.{arith}
use lib.Dec.{eqb, ltb, leb, lit≤, lit<}
use lib.ListN.{length}
use borrow.Author.Tests.{ltb-true, ltb-false, leb-true, eqb-true, eqb-false, not-true, not-false, lt-ltb, le-leb}
use Rattle.octets.specs.Octets.{pick, same}
use Rattle.octets.proofs.Sameness.{same_refl, same_eq}
use Rattle.suites.specs.Suites.{is_suite, key_length, nonce_length, limit, refusal}
use Rattle.deoxys.specs.Entry.{opened}
use Rattle.promises.specs.Refusals.{
  Fault,
  OpenFault,
  First,
  Ordered,
  SealsInOrder,
  RefusedInOrderOfSeal,
  OpensInOrder,
  RefusedInOrderOfOpen,
  RefusedInOrder,
}
use Rattle.promises.proofs.Views.{Decided, decided, number, SealView, seal_view, OpenView, open_view, refusal_small}

-- ---- any table

-- what a number is, given in order
pub data Verdict (fault : ℕ → Type 0) (number : ℕ) : Type 0 where
  none : number ≡ 0 → ((n : ℕ) → fault n → ⊥) → Verdict fault number
  first : 0 < number → First fault number → Verdict fault number

-- no line before a number applies
record Clear (fault : ℕ → Type 0) (n : ℕ) : Type 0 where
  clear : (m : ℕ) → m < n → fault m → ⊥

module _ {fault : ℕ → Type 0} where
  only : {m n : ℕ} → First fault m → First fault n → m ≡ n
  only {m} {n} f g = by (ltb m n) (ltb n m) refl refl
    where
      by : (a b : Bool) → ltb m n ≡ a → ltb n m ≡ b → m ≡ n
      by true b p q = absurd (g.none_before m (ltb-true m n p) f.applies)
      by false true p q = absurd (f.none_before n (ltb-true n m q) g.applies)
      by false false p q = let a = ltb-false m n p in let b = ltb-false n m q in omega arith

  pub ordered : {number : ℕ} → Verdict fault number → Ordered fault number
  ordered {number} (Verdict.none z c) = record {
    refused = λ n h. (λ e. absurd (omega (arith, z, e, h)), λ f. absurd (c n f.applies));
    done = (λ e. c, λ d. z);
  }
  ordered {number} (Verdict.first h f) = record {
    refused = λ n p. (λ e. subst (First fault) e f, λ g. only f g);
    done = (λ z. absurd (omega (arith, z, h)), λ d. absurd (d number f.applies));
  }

  more : {n : ℕ} → Clear fault n → (fault n → ⊥) → Clear fault (suc n)
  more {n} c fails = record { clear = λ m h f. by m h f (decided m n) }
    where
      by : (m : ℕ) → m < suc n → fault m → Decided m n → ⊥
      by m h f (Decided.equal e) = fails (subst fault e f)
      by m h f (Decided.other d) = c.clear m (omega arith) f

  -- a test of a chain: where it holds, its number is the first; else the tests after it decide
  tested : (b : Bool) (n x : ℕ) → Clear fault (suc n) → (b ≡ true → fault (suc n)) → (b ≡ false → fault (suc n) → ⊥)
      → (Clear fault (suc (suc n)) → Verdict fault x) → Verdict fault (pick b (suc n) x)
  tested true n x c holds fails next = Verdict.first (zero-lt-suc n) (record { applies = holds refl; none_before = c.clear })
  tested false n x c holds fails next = next (more c (fails refl))

-- ---- the lines that sealing and opening share

both_true : (a b : Bool) → pick a b false ≡ true → (a ≡ true) × (b ≡ true)
both_true true b e = (refl, e)
both_true false b e = absurd (false≢true e)

suited : (suite : ℕ) → is_suite suite ≡ true → (1 ≤ suite) × (suite ≤ 4)
suited suite e = let p = both_true (ltb 0 suite) (leb suite 4) e in (ltb-true 0 suite p.0, leb-true suite 4 p.1)

unsuited : (suite : ℕ) → is_suite suite ≡ false → (1 ≤ suite) × (suite ≤ 4) → ⊥
unsuited suite e p = false≢true (sym e ∙ rw (lt-ltb 0 suite p.0, le-leb suite 4 p.1))

module _ {suite : ℕ} {key nonce ad text : List ℕ} where
  fault_1 : Fault suite key nonce ad text 1 → is_suite suite ≡ true → ⊥
  fault_1 (Fault.no_suite h) e = h (suited suite e)

  fault_2 : Fault suite key nonce ad text 2 → length key ≡ key_length suite → ⊥
  fault_2 (Fault.wrong_key h) = h

  fault_3 : Fault suite key nonce ad text 3 → length nonce ≡ nonce_length suite → ⊥
  fault_3 (Fault.wrong_nonce h) = h

  fault_4 : Fault suite key nonce ad text 4 → length ad ≤ 1048576 → ⊥
  fault_4 (Fault.long_data h) l = omega arith

  fault_5 : Fault suite key nonce ad text 5 → length text ≤ 1048576 → ⊥
  fault_5 (Fault.long_text h) l = omega arith

  pub within : {n : ℕ} → Fault suite key nonce ad text n → (1 ≤ n) × (n ≤ 5)
  within (Fault.no_suite h) = (lit≤ tt, lit≤ tt)
  within (Fault.wrong_key h) = (lit≤ tt, lit≤ tt)
  within (Fault.wrong_nonce h) = (lit≤ tt, lit≤ tt)
  within (Fault.long_data h) = (lit≤ tt, lit≤ tt)
  within (Fault.long_text h) = (lit≤ tt, lit≤ tt)

module _ (suite : ℕ) (key nonce ad text : List ℕ) where
  pub by_lengths : Verdict (Fault suite key nonce ad text) (number suite key nonce ad text)
  unfolding refusal
  by_lengths =
      tested (not (is_suite suite)) 0 _ (record { clear = λ m h f. omega (arith, h, (within f).0) })
      (λ e. Fault.no_suite (unsuited suite (not-true _ e))) (λ e f. fault_1 f (not-false _ e))
      (λ c. tested (not (eqb (length key) (key_length suite))) 1 _ c
      (λ e. Fault.wrong_key (eqb-false _ _ (not-true _ e))) (λ e f. fault_2 f (eqb-true _ _ (not-false _ e)))
      (λ c. tested (not (eqb (length nonce) (nonce_length suite))) 2 _ c
      (λ e. Fault.wrong_nonce (eqb-false _ _ (not-true _ e))) (λ e f. fault_3 f (eqb-true _ _ (not-false _ e)))
      (λ c. tested (ltb limit (length ad)) 3 _ c
      (λ e. Fault.long_data (omega (arith, ltb-true limit (length ad) e))) (λ e f. fault_4 f (ltb-false _ _ e))
      (λ c. tested (ltb limit (length text)) 4 _ c
      (λ e. Fault.long_text (omega (arith, ltb-true limit (length text) e))) (λ e f. fault_5 f (ltb-false _ _ e))
      (λ c. Verdict.none refl (λ n f. c.clear n (omega (arith, (within f).1)) f))))))

-- ---- sealing

pub refused_in_order_of_seal : RefusedInOrderOfSeal
refused_in_order_of_seal suite key nonce ad message outcome a = by (seal_view suite key nonce ad message)
  where
    by : SealView suite key nonce ad message → SealsInOrder suite key nonce ad message outcome
    by (SealView.refused h e) =
        subst (SealsInOrder suite key nonce ad message) (sym (a ∙ e))
        (record {
          numbered = ordered (by_lengths suite key nonce ad message);
          refused = λ r. record { tag_is = refl; rows_are = refl; buffer_is = refl };
          done = λ z. absurd (h z);
        })
    by (SealView.done h e) =
        subst (SealsInOrder suite key nonce ad message) (sym (a ∙ e))
        (record {
          numbered = ordered (subst (Verdict (Fault suite key nonce ad message)) h (by_lengths suite key nonce ad message));
          refused = λ r. absurd (r refl);
          done = λ z. record { tag_is = refl; rows_are = refl; buffer_is = refl };
        })

-- ---- opening

module _ (suite : ℕ) (key nonce ad cipher tag : List ℕ) where
  fault_6 : OpenFault suite key nonce ad cipher tag 6 → length tag ≡ 16 → ⊥
  fault_6 (OpenFault.both f) l = omega (arith, (within f).1)
  fault_6 (OpenFault.tag_length h) l = h l

  fault_7 : OpenFault suite key nonce ad cipher tag 7 → tag ≡ (opened suite key nonce ad cipher tag).tag → ⊥
  fault_7 (OpenFault.both f) e = omega (arith, (within f).1)
  fault_7 (OpenFault.wrong_tag h) e = h e

  below_8 : {n : ℕ} → OpenFault suite key nonce ad cipher tag n → n < 8
  below_8 (OpenFault.both f) = omega (arith, (within f).1)
  below_8 (OpenFault.tag_length h) = lit< tt
  below_8 (OpenFault.wrong_tag h) = lit< tt

  -- up to 5 the lines are the shared ones
  shared : {n : ℕ} → OpenFault suite key nonce ad cipher tag n → n ≤ 5 → Fault suite key nonce ad cipher n
  shared (OpenFault.both f) h = f
  shared (OpenFault.tag_length l) h = absurd (omega arith)
  shared (OpenFault.wrong_tag w) h = absurd (omega arith)

  by_number : Ordered (Fault suite key nonce ad cipher) (number suite key nonce ad cipher)
  by_number = ordered (by_lengths suite key nonce ad cipher)

  number_first : (number suite key nonce ad cipher ≡ 0 → ⊥)
      → Verdict (OpenFault suite key nonce ad cipher tag) (number suite key nonce ad cipher)
  number_first h =
      let small = refusal_small suite (length key) (length nonce) (length ad) (length cipher) in
      let f = (by_number.refused _ (pos_of_ne-zero h)).0 refl in
      Verdict.first (pos_of_ne-zero h) (record {
        applies = OpenFault.both f.applies;
        none_before = λ m l g. f.none_before m l (shared g (omega (arith, l, small)));
      })

  module _ (h : number suite key nonce ad cipher ≡ 0) where
    clear_6 : Clear (OpenFault suite key nonce ad cipher tag) 6
    clear_6 = record { clear = λ m l f. by_number.done.0 h m (shared f (omega (arith, l))) }

    tag_length_first : (length tag ≡ 16 → ⊥) → Verdict (OpenFault suite key nonce ad cipher tag) 6
    tag_length_first l = Verdict.first (lit< tt) (record { applies = OpenFault.tag_length l; none_before = clear_6.clear })

    module _ (l : length tag ≡ 16) where
      clear_7 : Clear (OpenFault suite key nonce ad cipher tag) 7
      clear_7 = more clear_6 (λ f. fault_6 f l)

      tag_first : same tag (opened suite key nonce ad cipher tag).tag ≡ false → Verdict (OpenFault suite key nonce ad cipher tag) 7
      tag_first s = Verdict.first (lit< tt) (record {
        applies = OpenFault.wrong_tag (λ e. false≢true (sym s ∙ ap (same tag) (sym e) ∙ same_refl tag));
        none_before = clear_7.clear;
      })

      none_applies : same tag (opened suite key nonce ad cipher tag).tag ≡ true → Verdict (OpenFault suite key nonce ad cipher tag) 0
      none_applies s = Verdict.none refl (λ n f. (more clear_7 (λ g. fault_7 g (same_eq tag _ s))).clear n (below_8 f) f)

pub refused_in_order_of_open : RefusedInOrderOfOpen
refused_in_order_of_open suite key nonce ad cipher tag outcome o = by (open_view suite key nonce ad cipher tag)
  where
    by : OpenView suite key nonce ad cipher tag → OpensInOrder suite key nonce ad cipher tag outcome
    by (OpenView.refused h e) =
        let small = refusal_small suite (length key) (length nonce) (length ad) (length cipher) in
        subst (OpensInOrder suite key nonce ad cipher tag) (sym (o ∙ e))
        (record {
          numbered = ordered (number_first suite key nonce ad cipher tag h);
          refused = λ p q. record { rows_are = refl; buffer_is = refl };
          wrong = λ z. absurd (omega (arith, small, z));
          done = λ z. absurd (h z);
        })
    by (OpenView.wrong_length h l e) =
        subst (OpensInOrder suite key nonce ad cipher tag) (sym (o ∙ e))
        (record {
          numbered = ordered (tag_length_first suite key nonce ad cipher tag h l);
          refused = λ p q. record { rows_are = refl; buffer_is = refl };
          wrong = λ z. absurd (omega (arith, z));
          done = λ z. absurd (omega (arith, z));
        })
    by (OpenView.wrong h l s e) =
        subst (OpensInOrder suite key nonce ad cipher tag) (sym (o ∙ e))
        (record {
          numbered = ordered (tag_first suite key nonce ad cipher tag h l s);
          refused = λ p q. absurd (omega (arith, q));
          wrong = λ z. record { rows_are = refl; buffer_is = refl };
          done = λ z. absurd (omega (arith, z));
        })
    by (OpenView.accepted h l s e) =
        subst (OpensInOrder suite key nonce ad cipher tag) (sym (o ∙ e))
        (record {
          numbered = ordered (none_applies suite key nonce ad cipher tag h l s);
          refused = λ p q. absurd (omega (arith, p));
          wrong = λ z. absurd (omega (arith, z));
          done = λ z. record { rows_are = refl; buffer_is = refl };
        })

pub refused_in_order : RefusedInOrder
refused_in_order = (refused_in_order_of_seal, refused_in_order_of_open)
