-- Numbers and lengths within bounds.
-- Assumes nothing.
use mathlib.Core.Path.{◌≡◌, refl}
use mathlib.Core.Bool.{Bool, true, false, false≢true}
use Prim.Native.Nat.{ℕ, ◌≤◌}
use borrow.Author.Tests.{le-leb}
use Rattle.octets.specs.Octets.{pick}
use Rattle.fields.specs.Fields.{between}

pub inside : (least greatest value number : ℕ) → least ≤ value → value ≤ greatest → 0 ≡ pick (between least greatest value) 0 number
inside least greatest value number l h = simp (le-leb _ _ l, le-leb _ _ h)

-- both tests of a bound
pub both : (a b : Bool) → pick a b false ≡ true → (a ≡ true) × (b ≡ true)
both true b e = (refl, e)
both false b e = absurd (false≢true e)
