-- Comparing two texts: what a comparison means, and that it is whether the bits in which they differ are none.
-- Assumes nothing.
use mathlib.Core.Path.{◌≡◌, refl, sym, ap, ◌∙◌}
use mathlib.Core.Bool.{Bool, true, false}
use mathlib.Core.List.{List, [], ◌∷◌}
use Prim.Native.Nat.{ℕ, ◌+◌, ◌≤◌}
use native.Mathlib.Omega.{arith}
use lib.Bits.{bit_and, bit_or, bit_xor, or_zero_l, or_add_and, and_le_r, xor_self, xor_zero_l}
use lib.Dec.{eqb}
use lib.ListN.{length}
use borrow.Author.Tests.{eq-eqb, ne_eqb, eqb-true, eqb-false}
use Rattle.std.specs.List.{fold}
use Rattle.octets.specs.Octets.{◌⊕◌, pick, same}
use Rattle.octets.proofs.Xor.{xor_back}

-- ---- the test means equality

pub same_refl : (s : List ℕ) → same s s ≡ true
unfolding same
same_refl [] = refl
same_refl (x ∷ s) = rw (eq-eqb x x refl) (same_refl s)

by_first : (x y : ℕ) (s t : List ℕ) (b : Bool) → eqb x y ≡ b → (same s t ≡ true → s ≡ t) → pick b (same s t) false ≡ true → x ∷ s ≡ y ∷ t
by_first x y s t true e r h = let p = eqb-true x y e in let q = r h in cc
by_first x y s t false e r h = cc

pub same_eq : (s t : List ℕ) → same s t ≡ true → s ≡ t
unfolding same
same_eq [] [] h = refl
same_eq [] (y ∷ t) h = cc
same_eq (x ∷ s) [] h = cc
same_eq (x ∷ s) (y ∷ t) h = by_first x y s t (eqb x y) refl (same_eq s t) h

-- ---- the bits in which two texts differ, ORed from d on, are 0 where d is and the texts are the same

or_both : (d x : ℕ) → bit_or d x ≡ 0 → d ≡ 0
or_both d x e =
    let s : bit_or d x + bit_and d x ≡ d + x = or_add_and d x in
    let l : bit_and d x ≤ x = and_le_r d x in
    omega arith

xor_zero_eq : (x y : ℕ) → bit_xor x y ≡ 0 → x ≡ y
xor_zero_eq x y e = sym (xor_back x y) ∙ ap (λ (z : ℕ). bit_xor z y) e ∙ xor_zero_l y

step : (d x y : ℕ) (r : Bool) (t u : Bool) → eqb d 0 ≡ t → eqb x y ≡ u
    → pick (eqb (bit_or d (bit_xor x y)) 0) r false ≡ pick t (pick u r false) false
step d x y r true true p q =
    let d₀ = eqb-true d 0 p in
    let e = eqb-true x y q in
    rw (d₀, or_zero_l, e, xor_self)
step d x y r true false p q =
    let d₀ = eqb-true d 0 p in
    rw (d₀, or_zero_l, ne_eqb (bit_xor x y) 0 (λ z. eqb-false x y q (xor_zero_eq x y z)))
step d x y r false u p q = rw (ne_eqb (bit_or d (bit_xor x y)) 0 (λ z. eqb-false d 0 p (or_both d (bit_xor x y) z)))

alone : (t : Bool) → t ≡ pick t true false
alone true = refl
alone false = refl

from_seen : (s t : List ℕ) (d : ℕ) → length s ≡ length t → eqb (fold bit_or d (s ⊕ t)) 0 ≡ pick (eqb d 0) (same s t) false
unfolding same ◌⊕◌
from_seen [] [] d e = alone (eqb d 0)
from_seen [] (y ∷ t) d e = cc
from_seen (x ∷ s) [] d e = cc
from_seen (x ∷ s) (y ∷ t) d e =
    from_seen s t (bit_or d (bit_xor x y)) (cc) ∙ step d x y (same s t) (eqb d 0) (eqb x y) refl refl

pub no_difference : (s t : List ℕ) → length s ≡ length t → eqb (fold bit_or 0 (s ⊕ t)) 0 ≡ same s t
no_difference s t e = from_seen s t 0 e
