-- What `0 differ` in a report rests on: a tally with no difference had none before, and nothing differed in what it was given since.
-- Assumes nothing.
use mathlib.Core.Path.{◌≡◌, refl}
use mathlib.Core.Bool.{Bool, true, false}
use Prim.Native.Nat.{ℕ, ◌<◌}
use native.Mathlib.Nat.{pos_of_ne-zero}
use native.Mathlib.Omega.{arith}
use lib.Dec.{eqb, ltb}
use borrow.Author.Tests.{eqb-true, eqb-false, ltb-true}
use Rattle.std.specs.Prelude.{Option, Some, None}
use Rattle.octets.specs.Octets.{pick}
use Rattle.differences.specs.declared.tally.Difference.{Difference}
use Rattle.differences.specs.declared.tally.Seen.{Seen}
use Rattle.differences.specs.declared.tally.Tally.{Tally}
use Rattle.differences.specs.declared.tally.What.{What}
use Rattle.differences.specs.declared.tally.What.TheVariants.{Number, Tag, Rows, Buffer, Inputs}
use Rattle.differences.specs.Tally.{first_difference, plus, counted, with_case, with_difference, with_call, with_bad_line, with_a_case, together}

-- a test that picks nothing held, and so did those after it
passed : (t : Bool) (rest : Option What) (other : What) → pick t rest (Some other) ≡ None → (t ≡ true) × (rest ≡ None)
passed true rest other e = (refl, e)
passed false rest other e = cc

-- nothing differs only where number, tag, rows, buffer and inputs are all as wanted
pub nothing_differs : (s : Seen) (number rows : ℕ) → first_difference s number rows ≡ None
    → (s.number ≡ number) × (s.tag ≡ true) × (s.rows ≡ rows) × (s.buffer ≡ true) × (s.inputs ≡ true)
unfolding first_difference
nothing_differs s number rows e =
    let n = passed (eqb s.number number) _ Number e in
    let t = passed s.tag _ Tag n.1 in
    let r = passed (eqb s.rows rows) _ Rows t.1 in
    let b = passed s.buffer _ Buffer r.1 in
    let i = passed s.inputs _ Inputs b.1 in
    (eqb-true s.number number n.0, t.0, eqb-true s.rows rows r.0, b.0, i.0)

module _ {C : Type 0} (t : Tally C) where
  some_difference : (d : Difference C) (b : Bool) → ltb 0 t.differ ≡ b
      → (pick b (counted t t.cases t.calls (plus t.differ 1)) (record { cases = t.cases; calls = t.calls; differ = 1; first = Some d })).differ ≡ 0
      → ⊥
  some_difference d true p e = omega (arith, ltb-true 0 t.differ p)
  some_difference d false p e = omega arith

  pub a_difference : (d : Difference C) → (with_difference t d).differ ≡ 0 → ⊥
  unfolding with_difference
  a_difference d e = some_difference d (ltb 0 t.differ) refl e

  pub a_bad_line : (line : ℕ) → (with_bad_line t line).differ ≡ 0 → ⊥
  a_bad_line line e = a_difference _ e

  pub after_a_case : (with_case t).differ ≡ 0 → t.differ ≡ 0
  after_a_case e = e

  some_cases : (b : Bool) → eqb t.cases 0 ≡ b → (pick b (with_bad_line t 0) t).differ ≡ 0 → (t.differ ≡ 0) × (0 < t.cases)
  some_cases true p e = absurd (a_bad_line 0 e)
  some_cases false p e = (e, pos_of_ne-zero (eqb-false t.cases 0 p))

  pub after_all_cases : (with_a_case t).differ ≡ 0 → (t.differ ≡ 0) × (0 < t.cases)
  unfolding with_a_case
  after_all_cases e = some_cases (eqb t.cases 0) refl e

  by_cases : (b : Bool) → eqb t.cases 0 ≡ b → (pick b (with_bad_line t 0) t).differ ≡ 0 → 0 < (pick b (with_bad_line t 0) t).cases
  by_cases true p e = absurd (a_bad_line 0 e)
  by_cases false p e = pos_of_ne-zero (eqb-false t.cases 0 p)

  -- a list in which nothing differs has a case
  pub has_a_case : (r : Tally C) → r ≡ with_a_case t → r.differ ≡ 0 → 0 < r.cases
  unfolding with_a_case
  has_a_case r p = rw p (by_cases (eqb t.cases 0) refl)

  pub after_both : (other : Tally C) → (together t other).differ ≡ 0 → (t.differ ≡ 0) × (other.differ ≡ 0)
  after_both other e = (omega arith, omega arith)

pub after_a_call : {C : Type 0} (t : Tally C) (line : ℕ) (call : C) (what : Option What) → (with_call t line call what).differ ≡ 0 → (t.differ ≡ 0) × (what ≡ None)
unfolding with_call
after_a_call t line call None e = (e, refl)
after_a_call t line call (Some what) e = absurd (a_difference _ _ e)
