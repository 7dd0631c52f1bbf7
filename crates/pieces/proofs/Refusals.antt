-- What refuses a call, as the code's tests show it; and what holds where nothing does.
-- Assumes nothing.
use mathlib.Core.Path.{◌≡◌, refl, sym}
use mathlib.Core.Bool.{Bool, true, false, false≢true}
use mathlib.Core.Logic.{◌⊎◌, inl, inr, ⊎_elim}
use Prim.Native.Nat.{ℕ, zero, suc, ◌+◌, ◌%◌, ◌≤◌, ◌<◌}
use native.Mathlib.Nat.{suc-ne-zero}
use native.Mathlib.Omega.{arith}
use lib.Dec.{eqb, ltb}
use borrow.Author.Tests.{eq-eqb, ne_eqb, lt-ltb, le-ltb, le-leb, lt-leb, leb-true, eqb-true, ltb-false}
use Rattle.octets.specs.Octets.{pick}
use Rattle.suites.specs.Suites.{refusal}
use Rattle.pieces.specs.declared.Pieces.{Pieces}
use Rattle.pieces.specs.ByPieces.{begin_refusal, sound, state_refusal, take_refusal}

-- ---- begin

module _ (suite key nonce ad : ℕ) where
  pub own_suite : suite ≤ 2 → refusal suite key nonce ad 0 ≡ begin_refusal suite key nonce ad
  unfolding begin_refusal
  own_suite h = simp (le-leb _ _ h)

  pub begin_passed : begin_refusal suite key nonce ad ≡ 0 → (suite ≤ 2) × (refusal suite key nonce ad 0 ≡ 0)
  unfolding begin_refusal
  begin_passed e = let p = either _ _ e in (leb-true _ _ p.0, p.1)
    where
      either : (b : Bool) (n : ℕ) → pick b n 1 ≡ 0 → (b ≡ true) × (n ≡ 0)
      either true n e = (refl, e)
      either false n e = absurd (suc-ne-zero 0 e)

-- ---- a state's bounds

module _ (p : Pieces) where
  module _ (h₀ : p.total ≤ 1048576) where
    module _ (h₁ : p.count.rows ≤ 131072) where
      pub of_a_short_key : p.keys.rounds ≡ 14 → true ≡ sound p
      of_a_short_key e = simp (le-leb _ _ h₀, le-leb _ _ h₁, eq-eqb _ _ e)

      pub of_a_long_key : p.keys.rounds ≡ 16 → true ≡ sound p
      of_a_long_key e = simp (le-leb _ _ h₀, le-leb _ _ h₁, ne_eqb p.keys.rounds 14 (λ x. omega (arith, e, x)), eq-eqb _ _ e)

pub record Bounds (p : Pieces) : Type 0 where
  pub few_bytes : p.total ≤ 1048576
  pub few_rows : p.count.rows ≤ 131072
  pub of_a_key : (p.keys.rounds ≡ 14) ⊎ (p.keys.rounds ≡ 16)

both : (a b : Bool) → pick a b false ≡ true → (a ≡ true) × (b ≡ true)
both true b e = (refl, e)
both false b e = absurd (false≢true e)

either : (a b : Bool) → pick a true b ≡ true → (a ≡ true) ⊎ (b ≡ true)
either true b e = inl refl
either false b e = inr e

pub bounds : (p : Pieces) → sound p ≡ true → Bounds p
bounds p e =
    let t = both _ _ e in
    let u = both _ _ t.1 in
    record {
      few_bytes = leb-true _ _ t.0;
      few_rows = leb-true _ _ u.0;
      of_a_key = ⊎_elim (λ x. inl (eqb-true _ _ x)) (λ x. inr (eqb-true _ _ x)) (either _ _ u.1);
    }

pub bounded : {p : Pieces} → Bounds p → sound p ≡ true
bounded {p} g =
    ⊎_elim (λ e. sym (of_a_short_key p g.few_bytes g.few_rows e))
    (λ e. sym (of_a_long_key p g.few_bytes g.few_rows e)) g.of_a_key

-- ---- every later call

module _ (p : Pieces) (last : ℕ) where
  pub begin_first : (p.number ≡ 0 → ⊥) → p.number ≡ state_refusal p last
  unfolding state_refusal
  begin_first h = simp (ne_eqb _ _ h)

  module _ (h₀ : p.number ≡ 0) where
    pub past : last < p.stage → 8 ≡ state_refusal p last
    unfolding state_refusal
    past h = simp (eq-eqb _ _ h₀, lt-leb _ _ h)

    module _ (h₁ : p.stage ≤ last) where
      pub none : sound p ≡ true → 0 ≡ state_refusal p last
      unfolding state_refusal
      none e = rw (eq-eqb _ _ h₀, le-leb _ _ h₁, e)

      pub unsound : sound p ≡ false → 8 ≡ state_refusal p last
      unfolding state_refusal
      unsound e = rw (eq-eqb _ _ h₀, le-leb _ _ h₁, e)

-- what holds where a state refuses nothing up to this stage
pub record Stands (p : Pieces) (last : ℕ) : Type 0 where
  pub begun : p.number ≡ 0
  pub staged : p.stage ≤ last
  pub within : Bounds p

pub few_rounds : {p : Pieces} {last : ℕ} → Stands p last → p.keys.rounds ≤ 16
few_rounds g = ⊎_elim (λ e. omega (arith, e)) (λ e. omega (arith, e)) g.within.of_a_key

first_zero : (x n : ℕ) → pick (eqb x 0) n x ≡ 0 → x ≡ 0
first_zero zero n e = refl
first_zero (suc x) n e = absurd (suc-ne-zero x (rw (ne_eqb (suc x) 0 (suc-ne-zero x)) at e))

eight_or_none : (b : Bool) → ◌≡◌ {A = ℕ} (pick b 0 8) 0 → b ≡ true
eight_or_none true e = refl
eight_or_none false e = absurd (suc-ne-zero 7 e)

pub stands : (p : Pieces) (last : ℕ) → state_refusal p last ≡ 0 → Stands p last
unfolding state_refusal
stands p last e =
    let z = first_zero p.number _ e in
    let t = both _ _ (eight_or_none _ (rw (eq-eqb _ _ z) at e)) in
    record { begun = z; staged = leb-true _ _ t.0; within = bounds p t.1 }

pub state_passes : {p : Pieces} {last : ℕ} → Stands p last → 0 ≡ state_refusal p last
state_passes {p} {last} g = none p last g.begun g.staged (bounded g.within)

-- ---- a piece

pub stays_open : (bytes : ℕ) → bytes % 16 ≡ 0 → ◌≡◌ {A = ℕ} 0 (pick (eqb (bytes % 16) 0) 0 1)
stays_open bytes e = simp (eq-eqb _ _ e)

pub closes : (bytes : ℕ) → 0 < bytes % 16 → ◌≡◌ {A = ℕ} 1 (pick (eqb (bytes % 16) 0) 0 1)
closes bytes h = simp (ne_eqb (bytes % 16) 0 (λ e. omega (arith, e, h)))

pub over : (total bytes : ℕ) → 1048576 < total + bytes → ◌≡◌ {A = ℕ} 5 (pick (ltb 1048576 (total + bytes)) 5 0)
over total bytes h = simp (lt-ltb _ _ h)

pub not_over : (total bytes : ℕ) → total + bytes ≤ 1048576 → ◌≡◌ {A = ℕ} 0 (pick (ltb 1048576 (total + bytes)) 5 0)
not_over total bytes h = simp (le-ltb _ _ h)

module _ (p : Pieces) (bytes : ℕ) where
  pub stands_first : (state_refusal p 0 ≡ 0 → ⊥) → state_refusal p 0 ≡ take_refusal p bytes
  unfolding take_refusal
  stands_first h = simp (ne_eqb _ _ h)

  module _ (h₀ : state_refusal p 0 ≡ 0) where
    pub too_long : 1048576 < p.total + bytes → 5 ≡ take_refusal p bytes
    unfolding take_refusal
    too_long h = rw (eq-eqb _ _ h₀) (over p.total bytes h)

    pub taken : p.total + bytes ≤ 1048576 → 0 ≡ take_refusal p bytes
    unfolding take_refusal
    taken h = rw (eq-eqb _ _ h₀) (not_over p.total bytes h)

  pub take_passed : take_refusal p bytes ≡ 0 → (state_refusal p 0 ≡ 0) × (p.total + bytes ≤ 1048576)
  unfolding take_refusal
  take_passed e =
      let z = first_zero (state_refusal p 0) _ e in
      (z, ltb-false _ _ (five_or_none _ (rw (eq-eqb _ _ z) at e)))
    where
      five_or_none : (b : Bool) → ◌≡◌ {A = ℕ} (pick b 5 0) 0 → b ≡ false
      five_or_none true e = absurd (suc-ne-zero 4 e)
      five_or_none false e = refl
