-- The S-box and its inverse: bytes stay bytes, and each undoes the other, by one test over all bytes each way.
-- Assumes nothing.
use mathlib.Core.Path.{◌≡◌, sym, ap, ◌∙◌, subst}
use Prim.Native.Nat.{ℕ, ◌<◌}
use lib.ListN.{get_or}
use Rattle.octets.proofs.Tables.{bounded, agreed}
use Rattle.field.specs.Substitution.{affine, unaffine, sub, inv_sub}
use Rattle.field.proofs.Inverses.{inverses, inverse_at, inverses_lt}

affine_lt : (x : ℕ) → x < 256 → affine x < 256
unfolding affine
affine_lt = bounded affine 256 256 tt

unaffine_lt : (x : ℕ) → x < 256 → unaffine x < 256
unfolding unaffine
unaffine_lt = bounded unaffine 256 256 tt

-- the rules, read off the list of inverses
pub sub_at : (x : ℕ) → x < 256 → sub x ≡ affine (get_or inverses x 0)
unfolding sub
sub_at x h = ap affine (inverse_at x h)

pub inv_sub_at : (x : ℕ) → x < 256 → inv_sub x ≡ get_or inverses (unaffine x) 0
unfolding inv_sub
inv_sub_at x h = inverse_at (unaffine x) (unaffine_lt x h)

pub sub_lt : (x : ℕ) → x < 256 → sub x < 256
sub_lt x h = subst (λ (y : ℕ). y < 256) (sym (sub_at x h)) (affine_lt (get_or inverses x 0) (inverses_lt x h))

pub inv_sub_lt : (x : ℕ) → x < 256 → inv_sub x < 256
inv_sub_lt x h = subst (λ (y : ℕ). y < 256) (sym (inv_sub_at x h)) (inverses_lt (unaffine x) (unaffine_lt x h))

back : (x : ℕ) → x < 256 → get_or inverses (unaffine (affine (get_or inverses x 0))) 0 ≡ x
unfolding inverses affine unaffine
back = agreed (λ x. get_or inverses (unaffine (affine (get_or inverses x 0))) 0) (λ x. x) 256 tt

forth : (x : ℕ) → x < 256 → affine (get_or inverses (get_or inverses (unaffine x) 0) 0) ≡ x
unfolding inverses affine unaffine
forth = agreed (λ x. affine (get_or inverses (get_or inverses (unaffine x) 0) 0)) (λ x. x) 256 tt

pub inv_sub-sub : (x : ℕ) → x < 256 → inv_sub (sub x) ≡ x
inv_sub-sub x h = inv_sub_at (sub x) (sub_lt x h) ∙ ap (λ (y : ℕ). get_or inverses (unaffine y) 0) (sub_at x h) ∙ back x h

pub sub-inv_sub : (x : ℕ) → x < 256 → sub (inv_sub x) ≡ x
sub-inv_sub x h = sub_at (inv_sub x) (inv_sub_lt x h) ∙ ap (λ (y : ℕ). affine (get_or inverses y 0)) (inv_sub_at x h) ∙ forth x h
