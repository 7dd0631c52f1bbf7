-- Fields, one and in a list: reading what was written gives it back, whatever is accepted is what is written, and a refusal is never 0.
-- Each by one induction over the rules.
-- Assumes nothing.
use mathlib.Core.Path.{◌≡◌, refl, sym, ap, ◌∙◌, subst}
use mathlib.Core.Bool.{Bool, true, false}
use mathlib.Core.List.{List, [], ◌∷◌, ◌++◌, append_assoc}
use Prim.Native.Nat.{ℕ, suc, ◌+◌, ◌-◌, ◌/◌, ◌%◌, ◌^◌, ◌≤◌, ◌<◌}
use native.Mathlib.Nat.{suc-ne-zero}
use native.Mathlib.Omega.{arith}
use lib.Dec.{eqb, leb}
use lib.ListN.{length, take, drop, get_or, length-append, length-drop, take-append-drop}
use lib.Seq.{length-take-le, take_at, drop_at, drop-drop, get_or-append-add}
use borrow.Author.Tests.{eq-eqb, le-leb, eqb-true, leb-true}
use Rattle.octets.specs.Octets.{Bytes, pick, big_endian}
use Rattle.fields.specs.Fields.{Rule, allows, number2, told, Read, refused, got, and_then, take_field, take_fields, field, fields, field_refusal, fields_refusal}
use Rattle.fields.proofs.Laying.{field-length}
use Rattle.fields.proofs.Ranges.{both}

-- every rule's length can be written in two bytes
abbrev pub Short : List Rule → Type 0
Short [] = Unit {0}
Short (r ∷ rules) = (r.greatest < 65536) × Short rules

-- every field is of a length that its rule allows
abbrev pub Sized : List Rule → List (List ℕ) → Type 0
Sized [] bodies = Unit {0}
Sized (r ∷ rules) [] = Unit {0}
Sized (r ∷ rules) (body ∷ bodies) = (allows r (length body) ≡ true) × Sized rules bodies

-- ---- readings that succeed

module _ {A : Type 0} where
  pub refused_not_got : {n : ℕ} {value : A} {left : List ℕ} → refused n ≡ got value left → ⊥
  refused_not_got e = let z : ◌≡◌ {A = ℕ} 0 1 = ap which e in omega arith
    where
      which : Read A → ℕ
      which (refused n) = 0
      which (got value left) = 1

  pub got_value : {a b : A} {s t : List ℕ} → got a s ≡ got b t → a ≡ b
  got_value {a} e = ap value e
    where
      value : Read A → A
      value (refused n) = a
      value (got v l) = v

  pub got_left : {a b : A} {s t : List ℕ} → got a s ≡ got b t → s ≡ t
  got_left e = ap left e
    where
      left : Read A → List ℕ
      left (refused n) = []
      left (got v l) = l

  pub picked : (b : Bool) (x : Read A) (n : ℕ) {value : A} {left : List ℕ} → pick b x (refused n) ≡ got value left → (b ≡ true) ×
      (x ≡ got value left)
  picked true x n e = (refl, e)
  picked false x n e = absurd (refused_not_got e)

-- what was got first, and what the bytes after it then gave
pub record Through {A B : Type 0} (x : Read A) (f : A → List ℕ → Read B) (value : B) (left : List ℕ) : Type 0 where
  pub first : A
  pub between : List ℕ
  pub got_first : x ≡ got first between
  pub got_then : f first between ≡ got value left

pub through : {A B : Type 0} (x : Read A) (f : A → List ℕ → Read B) {value : B} {left : List ℕ} → and_then x f ≡ got value left → Through x f
    value left
through (refused n) f e = absurd (refused_not_got e)
through (got a s) f e = record { first = a; between = s; got_first = refl; got_then = e }

-- ---- one field

opened : (r : Rule) (a b : ℕ) (body rest : List ℕ) → number2 a b ≡ length body → allows r (length body) ≡ true → r.in_range body ≡ true
    → take_field r (r.tag ∷ a ∷ b ∷ (body ++ rest)) ≡ got body rest
unfolding take_field
opened r a b body rest e h g =
    let long : 3 ≤ length (r.tag ∷ a ∷ b ∷ (body ++ rest)) = omega arith in
    let room : length body ≤ length (r.tag ∷ a ∷ b ∷ (body ++ rest)) - 3 = omega (arith, length-append body rest) in
    simp (le-leb _ _ long, eq-eqb r.tag r.tag refl, e, h, le-leb _ _ room, take_at, drop_at, g)

pub taken : (r : Rule) (body rest : List ℕ) → r.greatest < 65536 → allows r (length body) ≡ true → r.in_range body ≡ true
    → take_field r (field r.tag body ++ rest) ≡ got body rest
unfolding field big_endian
taken r body rest k h g =
    let n = leb-true (length body) r.greatest (both (leb r.least (length body)) (leb (length body) r.greatest) h).1 in
    let e : number2 (length body / 256 ^ 1 % 256) (length body / 256 ^ 0 % 256) ≡ length body = omega (arith, n) in
    opened r _ _ body rest e h g

pub record Made (r : Rule) (s body rest : List ℕ) : Type 0 where
  pub whole : s ≡ field r.tag body ++ rest
  pub sized : allows r (length body) ≡ true
  pub good : r.in_range body ≡ true

pub accepted : (r : Rule) (s body rest : List ℕ) → Bytes s → take_field r s ≡ got body rest → Made r s body rest
unfolding take_field field big_endian
accepted r [] body rest h e = absurd (refused_not_got e)
accepted r (x ∷ []) body rest h e = absurd (refused_not_got e)
accepted r (x ∷ y ∷ []) body rest h e = absurd (refused_not_got e)
accepted r (x ∷ y ∷ z ∷ t) body rest h e =
    let p₁ = picked (leb 3 (length (x ∷ y ∷ z ∷ t))) _ 10 e in
    let p₂ = picked (eqb x r.tag) _ 11 p₁.1 in
    let p₃ = picked (allows r (number2 y z)) _ 12 p₂.1 in
    let p₄ = picked (leb (number2 y z) (length (x ∷ y ∷ z ∷ t) - 3)) _ 10 p₃.1 in
    let p₅ = picked (r.in_range (take (number2 y z) t)) _ 13 p₄.1 in
    let fits : number2 y z ≤ length t = omega (arith, leb-true (number2 y z) (length (x ∷ y ∷ z ∷ t) - 3) p₄.0) in
    let eb : take (number2 y z) t ≡ body = got_value p₅.1 in
    let er : drop (number2 y z) t ≡ rest = got_left p₅.1 in
    let n : length body ≡ number2 y z = sym (ap length eb) ∙ length-take-le (number2 y z) t fits in
    let hy : y < 256 = h.at 1 in
    let hz : z < 256 = h.at 2 in
    let hi : length body / 256 ^ 1 % 256 ≡ y = omega (arith, n, hy, hz) in
    let lo : length body / 256 ^ 0 % 256 ≡ z = omega (arith, n, hy, hz) in
    record {
      whole = rw (hi, lo, eqb-true x r.tag p₂.0, ← eb, ← er, take-append-drop (number2 y z) t);
      sized = rw n p₃.0;
      good = rw eb at p₅.0;
    }

-- ---- a list of fields

pub tested : (r : Rule) (body : List ℕ) (n : ℕ) → pick (eqb (field_refusal r body) 0) n (field_refusal r body) ≡ 0
    → (allows r (length body) ≡ true) × (r.in_range body ≡ true) × (n ≡ 0)
tested r body n e = by (allows r (length body)) (r.in_range body) refl refl e
  where
    by : (a b : Bool) → allows r (length body) ≡ a → r.in_range body ≡ b
        → pick (eqb (pick a (pick b 0 13) 12) 0) n (pick a (pick b 0 13) 12) ≡ 0
        → (allows r (length body) ≡ true) × (r.in_range body ≡ true) × (n ≡ 0)
    by true true p q e = (p, q, e)
    by true false p q e = absurd (suc-ne-zero 12 e)
    by false b p q e = absurd (suc-ne-zero 11 e)

pub taken_all : (rules : List Rule) (bodies : List (List ℕ)) (rest : List ℕ) → Short rules → fields_refusal rules bodies ≡ 0
    → length bodies ≡ length rules → take_fields rules (fields rules bodies ++ rest) ≡ got bodies rest
unfolding take_fields fields fields_refusal
taken_all [] [] rest k e l = refl
taken_all [] (body ∷ bodies) rest k e l = let z : suc (length bodies) ≡ 0 = l in absurd (suc-ne-zero (length bodies) z)
taken_all (r ∷ rules) [] rest k e l = absurd (suc-ne-zero 11 e)
taken_all (r ∷ rules) (body ∷ bodies) rest k e l =
    let t = tested r body (fields_refusal rules bodies) e in
    let m : length bodies ≡ length rules = omega arith in
    rw (
      append_assoc (field r.tag body) (fields rules bodies) rest,
      taken r body (fields rules bodies ++ rest) k.0 t.0 t.1,
      taken_all rules bodies rest k.1 t.2 m,
    )

pub record Mades (rules : List Rule) (s : List ℕ) (bodies : List (List ℕ)) (rest : List ℕ) : Type 0 where
  pub whole : s ≡ fields rules bodies ++ rest
  pub number : fields_refusal rules bodies ≡ 0
  pub count : length bodies ≡ length rules

-- what is left after a field is bytes
pub rest_bytes : (a b : List ℕ) → Bytes (a ++ b) → Bytes b
rest_bytes a b h = record { at = λ i. rw (get_or-append-add a b i 0) at (h.at (length a + i)) }

one_more : (r : Rule) (rules : List Rule) (s first mid final rest : List ℕ) (others bodies : List (List ℕ)) → Made r s first mid
    → Mades rules mid others final → first ∷ others ≡ bodies → final ≡ rest → Mades (r ∷ rules) s bodies rest
unfolding fields fields_refusal
one_more r rules s first mid final rest others bodies m i eb er = record {
  whole =
      m.whole
      ∙ rw (← eb, ← er, append_assoc (field r.tag first) (fields rules others) final)
      (ap (λ (l : List ℕ). field r.tag first ++ l) i.whole);
  number = rw (← eb) (simp (m.sized, m.good, i.number));
  count = rw (← eb) (ap suc i.count);
}

pub accepted_all : (rules : List Rule) (s : List ℕ) (bodies : List (List ℕ)) (rest : List ℕ) → Bytes s
    → take_fields rules s ≡ got bodies rest → Mades rules s bodies rest
unfolding take_fields fields fields_refusal
accepted_all [] s bodies rest h e = record { whole = got_left e; number = refl; count = sym (ap length (got_value e)) }
accepted_all (r ∷ rules) s bodies rest h e =
    let a = through (take_field r s) _ e in
    let m = accepted r s a.first a.between h a.got_first in
    let b = through (take_fields rules a.between) _ a.got_then in
    let k = rest_bytes (field r.tag a.first) a.between (subst Bytes m.whole h) in
    one_more r rules s a.first a.between b.between rest b.first bodies m
    (accepted_all rules a.between b.first b.between k b.got_first) (got_value b.got_then) (got_left b.got_then)

-- ---- how far a reading goes, whatever the elements are

pub record Took (rules : List Rule) (s : List ℕ) (bodies : List (List ℕ)) (rest : List ℕ) : Type 0 where
  pub left : rest ≡ drop (length (fields rules bodies)) s
  pub within : length (fields rules bodies) ≤ length s
  pub sized : Sized rules bodies
  pub count : length bodies ≡ length rules

took-field : (r : Rule) (s body rest : List ℕ) → take_field r s ≡ got body rest
    → (rest ≡ drop (3 + length body) s) × (3 + length body ≤ length s) × (allows r (length body) ≡ true)
unfolding take_field
took-field r s body rest e =
    let p₁ = picked (leb 3 (length s)) _ 10 e in
    let p₂ = picked (eqb (get_or s 0 0) r.tag) _ 11 p₁.1 in
    let p₃ = picked (allows r (told s)) _ 12 p₂.1 in
    let p₄ = picked (leb (told s) (length s - 3)) _ 10 p₃.1 in
    let p₅ = picked (r.in_range (take (told s) (drop 3 s))) _ 13 p₄.1 in
    let h₁ = leb-true 3 (length s) p₁.0 in
    let h₄ = leb-true (told s) (length s - 3) p₄.0 in
    let fits : told s ≤ length (drop 3 s) = rw (length-drop 3 s) h₄ in
    let n : length body ≡ told s = sym (ap length (got_value p₅.1)) ∙ length-take-le (told s) (drop 3 s) fits in
    (sym (got_left p₅.1) ∙ rw n (drop-drop (told s) 3 s), omega (arith, h₁, h₄, n), rw n p₃.0)

took_more : (r : Rule) (rules : List Rule) (s first mid final rest : List ℕ) (others bodies : List (List ℕ))
    → (mid ≡ drop (3 + length first) s) × (3 + length first ≤ length s) × (allows r (length first) ≡ true) → Took rules mid others final
    → first ∷ others ≡ bodies → final ≡ rest → Took (r ∷ rules) s bodies rest
unfolding fields
took_more r rules s first mid final rest others bodies m i eb er =
    let n : length (field r.tag first ++ fields rules others) ≡ 3 + length first + length (fields rules others) =
    length-append (field r.tag first) (fields rules others) ∙ rw (field-length r.tag first) in
    let w : length (fields rules others) ≤ length s - (3 + length first) = rw (m.0, length-drop (3 + length first) s) at i.within in
    record {
      left = rw (← eb, ← er, n) (i.left ∙ rw m.0 (drop-drop (length (fields rules others)) (3 + length first) s));
      within = rw (← eb) (omega (arith, n, w, m.1));
      sized = rw (← eb) (m.2, i.sized);
      count = rw (← eb) (ap suc i.count);
    }

pub took_all : (rules : List Rule) (s : List ℕ) (bodies : List (List ℕ)) (rest : List ℕ) → take_fields rules s ≡ got bodies rest → Took rules
    s bodies rest
unfolding take_fields fields
took_all [] s bodies rest e =
    record { left = sym (got_left e); within = omega arith; sized = tt; count = sym (ap length (got_value e)) }
took_all (r ∷ rules) s bodies rest e =
    let a = through (take_field r s) _ e in
    let b = through (take_fields rules a.between) _ a.got_then in
    took_more r rules s a.first a.between b.between rest b.first bodies (took-field r s a.first a.between a.got_first)
    (took_all rules a.between b.first b.between b.got_first) (got_value b.got_then) (got_left b.got_then)

-- ---- no refusal is 0

abbrev pub NotZero : {A : Type 0} → Read A → Type 0
NotZero (refused n) = n ≡ 0 → ⊥
NotZero (got value left) = Unit {0}

pub pick_not_zero : {A : Type 0} (b : Bool) (x y : Read A) → NotZero x → NotZero y → NotZero (pick b x y)
pick_not_zero true x y h k = h
pick_not_zero false x y h k = k

pub then_not_zero : {A B : Type 0} (x : Read A) (f : A → List ℕ → Read B) → NotZero x → ((value : A) (left : List ℕ) → NotZero (f value left))
    → NotZero (and_then x f)
then_not_zero (refused n) f h k = h
then_not_zero (got value left) f h k = k value left

field_not_zero : (r : Rule) (s : List ℕ) → NotZero (take_field r s)
unfolding take_field
field_not_zero r s =
    pick_not_zero (leb 3 (length s)) _ (refused 10)
    (pick_not_zero (eqb (get_or s 0 0) r.tag) _ (refused 11)
    (pick_not_zero (allows r (told s)) _ (refused 12)
    (pick_not_zero (leb (told s) (length s - 3)) _ (refused 10)
    (pick_not_zero (r.in_range (take (told s) (drop 3 s))) (got _ _) (refused 13) tt (suc-ne-zero 12)) (suc-ne-zero 9))
    (suc-ne-zero 11))
    (suc-ne-zero 10))
    (suc-ne-zero 9)

pub fields_not_zero : (rules : List Rule) (s : List ℕ) → NotZero (take_fields rules s)
unfolding take_fields
fields_not_zero [] s = tt
fields_not_zero (r ∷ rules) s =
    then_not_zero (take_field r s) _ (field_not_zero r s)
    (λ body left. then_not_zero (take_fields rules left) _ (fields_not_zero rules left) (λ bodies after. tt))
