-- One field: each return of `read_field`, and a field whose bytes have a range.
-- Assumes nothing.
use mathlib.Core.Path.{◌≡◌, refl, sym}
use mathlib.Core.Bool.{true, false}
use mathlib.Core.List.{List}
use Prim.Native.Nat.{ℕ, ◌-◌, ◌≤◌, ◌<◌}
use native.Mathlib.Omega.{arith}
use lib.Dec.{eqb, leb}
use lib.ListN.{length, take, drop, get_or}
use lib.Seq.{drop-drop}
use borrow.Author.Tests.{le-leb, lt-leb, leb-true}
use Rattle.octets.specs.Octets.{pick}
use Rattle.fields.specs.Fields.{between, Rule, allows, told, Read, refused, got, and_then, take_field, plain}
use Rattle.fields.specs.Answers.{FieldGot}
use Rattle.fields.proofs.Readings.{then_pick}
use Rattle.fields.proofs.Ranges.{both}

-- in the order of the checks
module _ (tag least greatest : ℕ) (s : List ℕ) where
  pub few : length s < 3 → take_field (plain tag least greatest) s ≡ refused 10
  unfolding take_field
  few h = simp (lt-leb _ _ h)

  module _ (h : 3 ≤ length s) where
    pub other_tag : eqb (get_or s 0 0) tag ≡ false → take_field (plain tag least greatest) s ≡ refused 11
    unfolding take_field
    other_tag e = simp (le-leb _ _ h, e)

    module _ (e : eqb (get_or s 0 0) tag ≡ true) where
      pub other_length : between least greatest (told s) ≡ false → take_field (plain tag least greatest) s ≡ refused 12
      unfolding take_field
      other_length f = simp (le-leb _ _ h, e, f)

      module _ (f : between least greatest (told s) ≡ true) where
        pub cut_off : between 0 (length s - 3) (told s) ≡ false → take_field (plain tag least greatest) s ≡ refused 10
        unfolding take_field
        cut_off g = let m : leb (told s) (length s - 3) ≡ false = simp (le-leb 0 (told s) (omega arith)) at g in simp (le-leb _ _ h, e, f, m)

        pub is_read : between 0 (length s - 3) (told s) ≡ true → FieldGot tag least greatest s (told s)
        unfolding take_field
        is_read g =
            let l = both (leb least (told s)) (leb (told s) greatest) f in
            let m = both (leb 0 (told s)) (leb (told s) (length s - 3)) g in
            let w = leb-true (told s) (length s - 3) m.1 in
            record {
              given = simp (le-leb _ _ h, e, f, m.1, drop-drop);
              within = omega (arith, h, w);
              allowed = (leb-true least (told s) l.0, leb-true (told s) greatest l.1);
            }

-- the range is the last test of a field
pub ranged : (r : Rule) (s : List ℕ)
    → take_field r s ≡ and_then (take_field (plain r.tag r.least r.greatest) s)
    (λ body left. pick (r.in_range body) (got body left) (refused 13))
unfolding take_field
ranged r s =
    let f : List ℕ → List ℕ → Read (List ℕ) = λ body left. pick (r.in_range body) (got body left) (refused 13) in
    let e : and_then (got (take (told s) (drop 3 s)) (drop (told s) (drop 3 s))) f ≡ f (take (told s) (drop 3 s)) (drop (told s) (drop 3 s))
    = refl in
    sym
    (then_pick (leb 3 (length s)) _ _ 10 f
    (then_pick (eqb (get_or s 0 0) r.tag) _ _ 11 f
    (then_pick (allows r (told s)) _ _ 12 f (then_pick (leb (told s) (length s - 3)) _ _ 10 f e))))

pub ruleset in_order = (few, other_tag, other_length, cut_off, is_read)
