-- What the routines of this crate answer that refuse by a number: an error with that number, and none where it is 0.
-- Assumes nothing.
use Rattle.std.specs.Prelude.{◌≡◌, ℕ, Result, MatchResult}

abbrev pub Refuses : ℕ → Result Unit ℕ → Type 0
Refuses n r = MatchResult r (λ done. n ≡ 0) (λ number. (number ≡ n) × (n ≡ 0 → ⊥))
