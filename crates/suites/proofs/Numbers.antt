-- No refusal has the number of none.
-- Assumes nothing.
use Rattle.std.proofs.Common.{◌≡◌}
use Rattle.suites.specs.declared.Refused.{Refused}
use Rattle.suites.specs.declared.Refused.TheVariants.{Suite, Key, Nonce, Data, Text}
use Rattle.suites.specs.Numbers.{number_of}

pub not_none : (r : Refused) → number_of r ≡ 0 → ⊥
not_none Suite e = cc
not_none Key e = cc
not_none Nonce e = cc
not_none Data e = cc
not_none Text e = cc
