-- The four ways an opening can go and the two of a sealing, each with what it answers; and what an answer of 0 or 7 says of an opening.
-- Assumes nothing.
use mathlib.Core.Path.{◌≡◌, refl, sym, ap, ◌∙◌}
use mathlib.Core.Bool.{Bool, true, false, not}
use mathlib.Core.List.{List}
use Prim.Native.Nat.{ℕ, ◌≤◌}
use native.Mathlib.Omega.{arith}
use lib.Dec.{eqb, ltb, lit≤}
use lib.ListN.{length, replicate}
use borrow.Author.Tests.{eqb-true, eqb-false}
use Rattle.octets.specs.Octets.{pick, same, zero_block}
use Rattle.octets.proofs.Sameness.{same_eq}
use Rattle.suites.specs.Suites.{is_suite, key_length, nonce_length, limit, refusal}
use Rattle.deoxys.specs.Entry.{Opening, sealed, opened, sealing, opening, OpenAllows}
use Rattle.deoxys.proofs.Answers.{seal_refused, seal_done, open_refused, open_tag_length, open_done, open_wrong_tag}

pub data Decided (n m : ℕ) : Type 0 where
  equal : n ≡ m → Decided n m
  other : (n ≡ m → ⊥) → Decided n m

pub decided : (n m : ℕ) → Decided n m
decided n m = by (eqb n m) refl
  where
    by : (b : Bool) → eqb n m ≡ b → Decided n m
    by true e = equal (eqb-true n m e)
    by false e = other (eqb-false n m e)

module _ (suite : ℕ) (key nonce ad text : List ℕ) where
  abbrev pub number : ℕ
  number = refusal suite (length key) (length nonce) (length ad) (length text)

  pub data SealView : Type 0 where
    refused : (number ≡ 0 → ⊥)
        → sealing suite key nonce ad text ≡ record { answer = record { number = number; tag = zero_block; rows = 0 }; buffer = text }
        → SealView
    done : number ≡ 0
        → sealing suite key nonce ad text ≡ record {
          answer = record { number = 0; tag = (sealed suite key nonce ad text).tag; rows = length (sealed suite key nonce ad text).rows };
          buffer = (sealed suite key nonce ad text).text;
        }
        → SealView

  pub seal_view : SealView
  seal_view = by (decided number 0)
    where
      by : Decided number 0 → SealView
      by (equal e) = done e (sym (seal_done suite key nonce ad text e))
      by (other h) = refused h (sym (seal_refused suite key nonce ad text h))

  module _ (tag : List ℕ) where
    pub data OpenView : Type 0 where
      refused : (number ≡ 0 → ⊥)
          → opening suite key nonce ad text tag ≡ record { answer = record { number = number; rows = 0 }; buffer = text }
          → OpenView
      wrong_length : number ≡ 0 → (length tag ≡ 16 → ⊥)
          → opening suite key nonce ad text tag ≡ record { answer = record { number = 6; rows = 0 }; buffer = text }
          → OpenView
      accepted : number ≡ 0 → length tag ≡ 16 → same tag (opened suite key nonce ad text tag).tag ≡ true
          → opening suite key nonce ad text tag ≡ record {
            answer = record { number = 0; rows = length (opened suite key nonce ad text tag).rows };
            buffer = (opened suite key nonce ad text tag).text;
          }
          → OpenView
      wrong : number ≡ 0 → length tag ≡ 16 → same tag (opened suite key nonce ad text tag).tag ≡ false
          → opening suite key nonce ad text tag ≡ record {
            answer = record { number = 7; rows = length (opened suite key nonce ad text tag).rows };
            buffer = replicate (length text) 0;
          }
          → OpenView

    pub open_view : OpenView
    open_view = by (decided number 0)
      where
        judged : number ≡ 0 → length tag ≡ 16 → (b : Bool) → same tag (opened suite key nonce ad text tag).tag ≡ b → OpenView
        judged e l true s = accepted e l s (sym (open_done suite key nonce ad text tag e l s))
        judged e l false s = wrong e l s (sym (open_wrong_tag suite key nonce ad text tag e l s))

        lengths : number ≡ 0 → Decided (length tag) 16 → OpenView
        lengths e (equal l) = judged e l (same tag (opened suite key nonce ad text tag).tag) refl
        lengths e (other l) = wrong_length e l (sym (open_tag_length suite key nonce ad text tag e l))

        by : Decided number 0 → OpenView
        by (equal e) = lengths e (decided (length tag) 16)
        by (other h) = refused h (sym (open_refused suite key nonce ad text tag h))

-- a refusal by lengths is one of 1 to 5
pub refusal_small : (suite key nonce ad text : ℕ) → refusal suite key nonce ad text ≤ 5
unfolding refusal
refusal_small suite key nonce ad text =
    picked (not (is_suite suite)) 1 _ (lit≤ tt)
    (picked (not (eqb key (key_length suite))) 2 _ (lit≤ tt)
    (picked (not (eqb nonce (nonce_length suite))) 3 _ (lit≤ tt)
    (picked (ltb limit ad) 4 _ (lit≤ tt)
    (picked (ltb limit text) 5 0 (lit≤ tt) (lit≤ tt)))))
  where
    picked : (b : Bool) (x y : ℕ) → x ≤ 5 → y ≤ 5 → pick b x y ≤ 5
    picked true x y p q = p
    picked false x y p q = q

-- ---- an opening by its outcome

pub numbers : {a b : Opening} → a ≡ b → a.answer.number ≡ b.answer.number
numbers e = ap (λ (o : Opening). o.answer.number) e

module _ (suite : ℕ) (key nonce ad cipher tag : List ℕ) (outcome : Opening) (o : OpenAllows suite key nonce ad cipher tag outcome) where
  -- it answers 0: nothing refused it, and the tag is the computed one
  pub record Accepted : Type 0 where
    pub allowed : number suite key nonce ad cipher ≡ 0
    pub tag_length : length tag ≡ 16
    pub right : tag ≡ (opened suite key nonce ad cipher tag).tag
    pub is : outcome ≡ record {
      answer = record { number = 0; rows = length (opened suite key nonce ad cipher tag).rows };
      buffer = (opened suite key nonce ad cipher tag).text;
    }

  pub answered_0 : outcome.answer.number ≡ 0 → Accepted
  answered_0 z = by (open_view suite key nonce ad cipher tag)
    where
      by : OpenView suite key nonce ad cipher tag → Accepted
      by (OpenView.refused h e) = absurd (h (sym (numbers (o ∙ e)) ∙ z))
      by (OpenView.wrong_length h l e) = let f : ◌≡◌ {A = ℕ} 6 0 = sym (numbers (o ∙ e)) ∙ z in absurd (omega arith)
      by (OpenView.accepted h l s e) = record { allowed = h; tag_length = l; right = same_eq tag _ s; is = o ∙ e }
      by (OpenView.wrong h l s e) = let f : ◌≡◌ {A = ℕ} 7 0 = sym (numbers (o ∙ e)) ∙ z in absurd (omega arith)

  -- it answers 7
  pub record Wrong : Type 0 where
    pub allowed : number suite key nonce ad cipher ≡ 0
    pub tag_length : length tag ≡ 16
    pub is : outcome ≡ record {
      answer = record { number = 7; rows = length (opened suite key nonce ad cipher tag).rows };
      buffer = replicate (length cipher) 0;
    }

  pub answered_7 : outcome.answer.number ≡ 7 → Wrong
  answered_7 z = by (open_view suite key nonce ad cipher tag)
    where
      by : OpenView suite key nonce ad cipher tag → Wrong
      by (OpenView.refused h e) =
          let f = sym (numbers (o ∙ e)) ∙ z in
          let small = refusal_small suite (length key) (length nonce) (length ad) (length cipher) in
          absurd (omega arith)
      by (OpenView.wrong_length h l e) = let f : ◌≡◌ {A = ℕ} 6 7 = sym (numbers (o ∙ e)) ∙ z in absurd (omega arith)
      by (OpenView.accepted h l s e) = let f : ◌≡◌ {A = ℕ} 0 7 = sym (numbers (o ∙ e)) ∙ z in absurd (omega arith)
      by (OpenView.wrong h l s e) = record { allowed = h; tag_length = l; is = o ∙ e }
