-- A field at a place, by its rule: refused, out of its range, or got; and what that makes of the list of fields that it begins.
-- Assumes nothing.
use mathlib.Core.Path.{◌≡◌, ap, ◌∙◌}
use mathlib.Core.Bool.{true, false}
use mathlib.Core.List.{List}
use Prim.Native.Nat.{ℕ, ◌+◌, ◌-◌, ◌≤◌, ◌<◌}
use native.Mathlib.Nat.{add_assoc}
use native.Mathlib.Omega.{arith}
use lib.ListN.{length, take, drop, get_or, length-drop}
use lib.Seq.{drop-drop, get_or-take, get_or-drop, length-take-le}
use Rattle.octets.specs.Octets.{pick}
use Rattle.fields.specs.Fields.{Rule, Read, refused, got, and_then, take_field, plain}
use Rattle.fields.specs.Answers.{part, FieldGot}
use Rattle.fields.proofs.OneField.{ranged}

pub part-part : (s : List ℕ) (at from bytes : ℕ) → part (drop at s) from bytes ≡ part s (at + from) bytes
part-part s at from bytes = ap (λ (l : List ℕ). take bytes l) (drop-drop from at s)

pub part_at : (s : List ℕ) (at bytes i : ℕ) → i < bytes → get_or (part s at bytes) i 0 ≡ get_or s (at + i) 0
part_at s at bytes i h = get_or-take bytes (drop at s) i 0 h ∙ get_or-drop at s i 0

pub part_length : (s : List ℕ) (at bytes : ℕ) → at + bytes ≤ length s → length (part s at bytes) ≡ bytes
part_length s at bytes h = length-take-le bytes (drop at s) (simp length-drop (omega arith))

module _ (r : Rule) (s : List ℕ) where
  -- as the rule tests it
  tested : (x : Read (List ℕ)) → take_field (plain r.tag r.least r.greatest) s ≡ x
      → take_field r s ≡ and_then x (λ body left. pick (r.in_range body) (got body left) (refused 13))
  tested x e = ranged r s ∙ ap (λ (y : Read (List ℕ)). and_then y (λ body left. pick (r.in_range body) (got body left) (refused 13))) e

  pub field-refused : (n : ℕ) → take_field (plain r.tag r.least r.greatest) s ≡ refused n → take_field r s ≡ refused n
  field-refused n e = tested (refused n) e

module _ (r : Rule) (s : List ℕ) (at bytes : ℕ) (f : FieldGot r.tag r.least r.greatest (drop at s) bytes) where
  there : take_field (plain r.tag r.least r.greatest) (drop at s) ≡ got (part s (at + 3) bytes) (drop (at + 3 + bytes) s)
  there = f.given ∙ rw (part-part s at 3 bytes, drop-drop (3 + bytes) at s, add_assoc at 3 bytes)

  pub field_got : r.in_range (part s (at + 3) bytes) ≡ true
      → take_field r (drop at s) ≡ got (part s (at + 3) bytes) (drop (at + 3 + bytes) s)
  field_got e = tested r (drop at s) _ there ∙ rw e

  pub field_out : r.in_range (part s (at + 3) bytes) ≡ false → take_field r (drop at s) ≡ refused 13
  field_out e = tested r (drop at s) _ there ∙ rw e

  pub field_end : at ≤ length s → at + 3 + bytes ≤ length s
  field_end h =
      let w : 3 + bytes ≤ length s - at = rw (length-drop at s) at f.within in
      omega arith
