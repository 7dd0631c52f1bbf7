-- What the routines of this crate answer: document 02's numbers of their refusals, a field that was read, as a reading of the bytes left, and
-- bytes laid at a place.
-- Assumes nothing.
use Rattle.std.specs.Prelude.{◌≡◌, Bool, true, false, List, ◌++◌, ℕ, ◌+◌, ◌≤◌, length, take, drop, Result, Ok, Err, MatchResult}
use Rattle.fields.specs.declared.Refused.{Refused}
use Rattle.fields.specs.declared.Refused.TheVariants.{Missing, WrongTag, WrongLength, OutOfRange}
use Rattle.fields.specs.Fields.{refused, got, plain, take_field}

abbrev pub number_of : Refused → ℕ
number_of Missing = 10
number_of WrongTag = 11
number_of WrongLength = 12
number_of OutOfRange = 13

-- 0 where nothing is refused
abbrev pub answer_number : Result Unit Refused → ℕ
answer_number (Ok done) = 0
answer_number (Err e) = number_of e

-- a test that passes, or refuses as it says
abbrev pub Tested : Bool → Refused → Result Unit Refused → Type 0
Tested test why r = MatchResult r (λ done. test ≡ true) (λ e. (e ≡ why) × (test ≡ false))

-- so many bytes from a place on
abbrev pub part : List ℕ → ℕ → ℕ → List ℕ
part s at bytes = take bytes (drop at s)

-- one field that was read: its bytes lie after the three of its head
pub record FieldGot (tag least greatest : ℕ) (s : List ℕ) (bytes : ℕ) : Type 0 where
  pub given : take_field (plain tag least greatest) s ≡ got (part s 3 bytes) (drop (3 + bytes) s)
  pub within : 3 + bytes ≤ length s
  pub allowed : (least ≤ bytes) × (bytes ≤ greatest)

abbrev pub FieldRead : ℕ → ℕ → ℕ → List ℕ → Result ℕ Refused → Type 0
FieldRead tag least greatest s r =
    MatchResult r (FieldGot tag least greatest s) (λ e. take_field (plain tag least greatest) s ≡ refused (number_of e))

-- bytes laid at a place, all others as they stood
abbrev pub laid_at : ℕ → List ℕ → List ℕ → List ℕ
laid_at at body destination = take at destination ++ (body ++ drop (at + length body) destination)
