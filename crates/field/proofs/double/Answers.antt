-- `field::double` meets its contract: the bits that stay and the bit that falls out are each the definition's, by arithmetic; the product
-- fits a byte.
-- Assumes nothing.
use mathlib.Core.Path.{◌≡◌, refl, ap₂}
use Prim.Native.Nat.{ℕ, ◌*◌, ◌/◌, ◌%◌}
use native.Mathlib.Omega.{arith}
use lib.Bits.{bit_xor, xor_comm}
use Rattle.field.specs.Field.{double}
use Rattle.field.proofs.double.Goals as goal

-- XOR under a name that stays shut: two sums are then equal part by part, and the code's terms are not repeated here
unfoldable sum : ℕ → ℕ → ℕ
sum a b = bit_xor a b

shut : (a b : ℕ) → bit_xor a b ≡ sum a b
unfolding sum
shut a b = refl

doubled : (x : ℕ) → double x ≡ sum (x % 128 * 2) (x / 128 % 2 * 0x1b)
unfolding double sum
doubled x = xor_comm (x / 128 % 2 * 0x1b) (x % 128 * 2)

pub returns : goal.returns
returns c = simp (shut, doubled) (ap₂ sum (omega arith) (omega arith))
