-- No refusal has the number of none; and the number of what tests a range.
-- Assumes nothing.
use Rattle.std.proofs.Common.{◌≡◌, Bool}
use Rattle.std.specs.Prelude.{Result, Ok, Err}
use Rattle.octets.specs.Octets.{pick}
use Rattle.fields.specs.declared.Refused.{Refused}
use Rattle.fields.specs.declared.Refused.TheVariants.{Missing, WrongTag, WrongLength, OutOfRange}
use Rattle.fields.specs.Answers.{number_of, answer_number, Tested}

pub not_none : (r : Refused) → number_of r ≡ 0 → ⊥
not_none Missing e = cc
not_none WrongTag e = cc
not_none WrongLength e = cc
not_none OutOfRange e = cc

pub range_number : (b : Bool) (r : Result Unit Refused) → Tested b OutOfRange r → answer_number r ≡ pick b 0 13
range_number b (Ok done) h = rw h
range_number b (Err e) h = rw (h.0, h.1)
