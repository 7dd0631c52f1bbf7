-- Numbers as the arguments spell them: decimal digits, and none above one more than document 01's limit, where all are refused alike.
-- Assumes nothing.
use Rattle.std.specs.Prelude.{Bool, true, false, List, [], ◌∷◌, ℕ, ◌+◌, ◌-◌, ◌*◌, min, leb, ltb, length, Option, Some, None}
use Rattle.octets.specs.Octets.{pick}

abbrev pub is_digit : ℕ → Bool
is_digit c = pick (leb 48 c) (leb c 57) false

unfoldable pub digits : List ℕ → Bool
digits [] = true
digits (c ∷ text) = pick (is_digit c) (digits text) false

-- what the digits of a text spell after a number n
unfoldable pub value_after : ℕ → List ℕ → ℕ
value_after n [] = n
value_after n (c ∷ text) = value_after (n * 10 + (c - 48)) text

unfoldable pub number_of : List ℕ → Option ℕ
number_of text = pick (pick (ltb 0 (length text)) (digits text) false) (Some (min (value_after 0 text) 1048577)) None
