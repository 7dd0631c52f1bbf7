-- Readings one after another: what a refusal stops, and what goes on after a field.
-- Assumes nothing.
use mathlib.Core.Path.{◌≡◌, refl, sym}
use mathlib.Core.Bool.{Bool, true, false}
use mathlib.Core.List.{List, [], ◌∷◌, ◌++◌}
use Prim.Native.Nat.{ℕ}
use Rattle.octets.specs.Octets.{pick}
use Rattle.fields.specs.Fields.{Rule, Read, refused, got, and_then, take_field, take_fields}

-- a test in front of a reading stays in front
pub then_pick : {A B : Type 0} (b : Bool) (x : Read A) (y : Read B) (n : ℕ) (f : A → List ℕ → Read B)
    → and_then x f ≡ y → and_then (pick b x (refused n)) f ≡ pick b y (refused n)
then_pick true x y n f e = e
then_pick false x y n f e = refl

module _ (r : Rule) (rules : List Rule) (s : List ℕ) where
  pub stop : (n : ℕ) → take_field r s ≡ refused n → take_fields (r ∷ rules) s ≡ refused n
  unfolding take_fields
  stop n e = rw e

  pub go : (body left : List ℕ) → take_field r s ≡ got body left
      → take_fields (r ∷ rules) s ≡ and_then (take_fields rules left) (λ bodies after. got (body ∷ bodies) after)
  unfolding take_fields
  go body left e = rw e

pub fields_end : (s : List ℕ) → take_fields [] s ≡ got [] s
unfolding take_fields
fields_end s = refl

pub then_got : {A : Type 0} (x : Read A) → and_then x (λ value left. got value left) ≡ x
then_got (refused n) = refl
then_got (got value left) = refl

-- two lists of fields one after the other
pub fields_join : (first others : List Rule) (s : List ℕ)
    → take_fields (first ++ others) s
    ≡ and_then (take_fields first s) (λ bodies left. and_then (take_fields others left) (λ more after. got (bodies ++ more) after))
unfolding take_fields
fields_join [] others s = sym (then_got (take_fields others s))
fields_join (r ∷ first) others s = next (λ left. fields_join first others left) (take_field r s)
  where
    next : ((left : List ℕ)
        → take_fields (first ++ others) left
        ≡ and_then (take_fields first left) (λ bodies after. and_then (take_fields others after) (λ more end. got (bodies ++ more) end)))
        → (x : Read (List ℕ))
        → and_then x (λ body left. and_then (take_fields (first ++ others) left) (λ bodies after. got (body ∷ bodies) after))
        ≡ and_then (and_then x (λ body left. and_then (take_fields first left) (λ bodies after. got (body ∷ bodies) after)))
        (λ bodies left. and_then (take_fields others left) (λ more after. got (bodies ++ more) after))
    next again (refused n) = refl
    next again (got body left) = rw (again left) (swap (take_fields first left))
      where
        inner : (x : Read (List (List ℕ))) (bodies : List (List ℕ))
            → and_then (and_then x (λ more end. got (bodies ++ more) end)) (λ all after. got (body ∷ all) after)
            ≡ and_then x (λ more after. got (body ∷ (bodies ++ more)) after)
        inner (refused n) bodies = refl
        inner (got more end) bodies = refl

        swap : (x : Read (List (List ℕ)))
            → and_then (and_then x (λ bodies after. and_then (take_fields others after) (λ more end. got (bodies ++ more) end)))
            (λ all after. got (body ∷ all) after)
            ≡ and_then (and_then x (λ bodies after. got (body ∷ bodies) after))
            (λ bodies left. and_then (take_fields others left) (λ more after. got (bodies ++ more) after))
        swap (refused n) = refl
        swap (got bodies after) = inner (take_fields others after) bodies
