-- The numbers of document 01, "Numbers an entry point answers with", for the refusals that depend on lengths alone.
-- Assumes nothing.
use Rattle.std.specs.Prelude.{ℕ, Result, Ok, Err}
use Rattle.suites.specs.declared.Refused.{Refused}
use Rattle.suites.specs.declared.Refused.TheVariants.{Suite, Key, Nonce, Data, Text}

abbrev pub number_of : Refused → ℕ
number_of Suite = 1
number_of Key = 2
number_of Nonce = 3
number_of Data = 4
number_of Text = 5

-- 0 where nothing is refused
abbrev pub answer_number : Result Unit Refused → ℕ
answer_number (Ok done) = 0
answer_number (Err r) = number_of r
