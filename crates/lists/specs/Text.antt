-- Lines of a text, fields of a line, and the numbers and bytes that a field spells. Assumes nothing.
use Rattle.std.specs.Prelude.{◌≡◌, Bool, false, not, List, [], ◌∷◌, ℕ, ◌+◌, ◌-◌, ◌*◌, ◌/◌, ◌%◌, ◌≤◌, eqb, leb, length, take, drop, get_or, count_by, slice_get, unwrap_or, Option, Some, None}
use Rattle.std.specs.List.{position_or_len, slice_split}
use Rattle.std.specs.Option.{option_and_then}
use Rattle.io.specs.Digits.{hex_digit_ascii}
use Rattle.octets.specs.Octets.{pick}
use Rattle.lists.specs.declared.text.Spelled.{Spelled}

-- how far into a text a byte first stands, or the text's length
abbrev pub index_of : ℕ → List ℕ → ℕ
index_of b s = position_or_len (λ x. eqb x b) s

-- the bytes from one place up to another
unfoldable pub slice : ℕ → ℕ → List ℕ → List ℕ
slice from to s = drop from (take to s)

-- the parts of a text, with a separator between two
abbrev pub parts_of : ℕ → List ℕ → List (List ℕ)
parts_of separator s = slice_split (λ x. eqb x separator) s

-- part k of a text, counted from zero; empty past the last
abbrev pub part_of : ℕ → ℕ → List ℕ → List ℕ
part_of separator k s = unwrap_or (slice_get (parts_of separator s) k) []

-- how often a byte stands in a text
abbrev pub count_of : ℕ → List ℕ → ℕ
count_of b s = count_by (λ x. eqb x b) s

-- byte 10 stands between two lines, a space between two fields of a line
abbrev pub line_of : ℕ → List ℕ → List ℕ
line_of i s = part_of 10 i s

abbrev pub lines_of : List ℕ → ℕ
lines_of s = count_of 10 s + 1

abbrev pub field_of : ℕ → List ℕ → List ℕ
field_of k s = part_of 32 k s

-- a line is a case unless it is empty or starts with '#'
unfoldable pub is_case : List ℕ → Bool
is_case s = pick (eqb (length s) 0) false (not (eqb (get_or s 0 0) 35))

-- ---- numbers

-- one digit more, of a number below a thousand million
unfoldable pub with_digit : ℕ → ℕ → Option ℕ
with_digit n b = pick (leb 48 b) (pick (leb b 57) (pick (leb n 99999999) (Some (n * 10 + (b - 48))) None) None) None

-- the number that these digits spell after the digits of n
unfoldable pub number_from : ℕ → List ℕ → Option ℕ
number_from n [] = Some n
number_from n (b ∷ s) = option_and_then (λ m. number_from m s) (with_digit n b)

-- the number that a field spells in decimal; an empty field spells none
abbrev pub number_of : List ℕ → Option ℕ
number_of s = pick (eqb (length s) 0) None (number_from 0 s)

-- ---- bytes

-- each byte as two hexadecimal digits
unfoldable pub hexadecimal : List ℕ → List ℕ
hexadecimal [] = []
hexadecimal (b ∷ s) = hex_digit_ascii (b / 16) ∷ hex_digit_ascii (b % 16) ∷ hexadecimal s

-- the field that spells these bytes: '-' for none
unfoldable pub spelling : List ℕ → List ℕ
spelling [] = 45 ∷ []
spelling (b ∷ s) = hexadecimal (b ∷ s)

-- no bytes yet
pub record Fresh (s : Spelled) : Type 0 where
  pub length : s.length ≡ 0

-- from s to r the bytes grew by those that the field spells, and there is room for 256
pub record Adds (written : List ℕ → List ℕ) (s r : Spelled) (field : List ℕ) : Type 0 where
  pub kept : take s.length r.bytes ≡ take s.length s.bytes
  pub more : s.length ≤ r.length
  pub most : r.length ≤ 256
  pub spelt : field ≡ written (slice s.length r.length r.bytes)
