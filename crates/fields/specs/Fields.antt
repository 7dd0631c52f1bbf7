-- Fields, one by one and in a list: document 02, request b, "Each field is a one-byte tag, a two-byte big-endian length and its bytes", the
-- reader's order of checks, and the writer's numbers field by field. What the fields of the house record are is in crates/record/specs/HouseRecord.
-- Assumes nothing.
use Rattle.std.specs.Prelude.{Bool, true, false, List, [], ◌∷◌, ◌++◌, ℕ, ◌+◌, ◌-◌, ◌*◌, eqb, leb, length, take, drop, get_or}
use Rattle.octets.specs.Octets.{pick, big_endian}

abbrev pub between : ℕ → ℕ → ℕ → Bool
between least greatest n = pick (leb least n) (leb n greatest) false

-- the number of two bytes, the higher first
abbrev pub number2 : ℕ → ℕ → ℕ
number2 high low = high * 256 + low

-- what a field may be: its tag, its least and greatest length, and which bytes are in its range
pub record Rule : Type 0 where
  pub tag : ℕ
  pub least : ℕ
  pub greatest : ℕ
  pub in_range : List ℕ → Bool

-- a rule with no range: any bytes
abbrev pub plain : ℕ → ℕ → ℕ → Rule
plain tag least greatest = record { tag = tag; least = least; greatest = greatest; in_range = λ body. true }

abbrev pub allows : Rule → ℕ → Bool
allows r bytes = between r.least r.greatest bytes

-- ---- reading: from the bytes left, a value and the bytes left after it; or a number that refuses them

pub data Read (A : Type 0) : Type 0 where
  refused : ℕ → Read A
  got : A → List ℕ → Read A

-- what was got, and then what the bytes after it give
abbrev pub and_then : {A B : Type 0} → Read A → (A → List ℕ → Read B) → Read B
and_then (refused n) f = refused n
and_then (got value left) f = f value left

-- the length that a field's head tells
abbrev pub told : List ℕ → ℕ
told s = number2 (get_or s 1 0) (get_or s 2 0)

-- fewer than three bytes left 10; wrong tag 11; length not allowed 12; bytes missing 10; outside its range 13
unfoldable pub take_field : Rule → List ℕ → Read (List ℕ)
take_field r s =
    pick (leb 3 (length s))
    (pick (eqb (get_or s 0 0) r.tag)
    (pick (allows r (told s))
    (pick (leb (told s) (length s - 3))
    (pick (r.in_range (take (told s) (drop 3 s))) (got (take (told s) (drop 3 s)) (drop (told s) (drop 3 s)))
    (refused 13))
    (refused 10))
    (refused 12))
    (refused 11))
    (refused 10)

unfoldable pub take_fields : List Rule → List ℕ → Read (List (List ℕ))
take_fields [] s = got [] s
take_fields (r ∷ rules) s = and_then (take_field r s) (λ body left. and_then (take_fields rules left) (λ bodies after. got (body ∷ bodies) after))

-- ---- writing

unfoldable pub field : ℕ → List ℕ → List ℕ
field tag body = tag ∷ (big_endian 2 (length body) ++ body)

-- as many bodies as rules are meant: too few are written as far as they go, and refused with 12
unfoldable pub fields : List Rule → List (List ℕ) → List ℕ
fields (r ∷ rules) (body ∷ bodies) = field r.tag body ++ fields rules bodies
fields (r ∷ rules) [] = []
fields [] bodies = []

-- what refuses a field's bytes: length not allowed 12, outside its range 13; or 0
abbrev pub field_refusal : Rule → List ℕ → ℕ
field_refusal r body = pick (allows r (length body)) (pick (r.in_range body) 0 13) 12

-- field by field: the first that refuses
unfoldable pub fields_refusal : List Rule → List (List ℕ) → ℕ
fields_refusal (r ∷ rules) (body ∷ bodies) = pick (eqb (field_refusal r body) 0) (fields_refusal rules bodies) (field_refusal r body)
fields_refusal (r ∷ rules) [] = 12
fields_refusal [] bodies = 0
