-- Two faults at once get the earlier number: document 01, "Numbers an entry point answers with", by values.
-- Assumes nothing.
use mathlib.Core.Path.{◌≡◌, refl}
use mathlib.Core.List.{[], ◌∷◌}
use Rattle.suites.specs.Suites.{refusal}

-- suite and key, key and nonce, nonce and data, data and message
pub earlier_number :
    refusal 5 16 0 0 0 ∷ refusal 1 0 0 0 0 ∷ refusal 1 16 0 1048577 0 ∷ refusal 1 16 8 1048577 1048577 ∷ [] ≡ 1 ∷ 2 ∷ 3 ∷ 4 ∷ []
unfolding refusal
earlier_number = refl
