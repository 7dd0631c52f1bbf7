-- FIPS 197, section 4: bytes as elements of the field of 256, with XOR as the sum and products modulo x⁸ + x⁴ + x³ + x + 1 (0x11B).
-- Assumes nothing.
use Rattle.std.specs.Prelude.{ℕ, zero, suc, ◌*◌, ◌/◌, ◌%◌, eqb}
use Rattle.std.specs.Int.Bits.{bit_xor}
use Rattle.octets.specs.Octets.{pick}

-- 4.2.1 xtime: the bits move up by one place, and the bit that falls out counts as 0x1B
unfoldable pub double : ℕ → ℕ
double x = bit_xor (x / 128 % 2 * 0x1b) (x % 128 * 2)

-- the sum over the lowest n bits of c: x, doubled as often as the bit's place says, where the bit is 1
abbrev pub product_of : ℕ → ℕ → ℕ → ℕ
product_of zero c x = 0
product_of (suc n) c x = bit_xor (c % 2 * x) (product_of n (c / 2) (double x))

-- 4.2: the product c • x
unfoldable pub times : ℕ → ℕ → ℕ
times c x = product_of 8 c x

-- x to the power e, an exponent of n bits: the square's power by half of e, and x once more where e is odd
abbrev pub power_of : ℕ → ℕ → ℕ → ℕ
power_of zero x e = 1
power_of (suc n) x e = times (power_of n (times x x) (e / 2)) (pick (eqb (e % 2) 1) x 1)

unfoldable pub power : ℕ → ℕ → ℕ
power x e = power_of 8 x e

-- the multiplicative inverse, and 0 for 0: every x other than 0 has x²⁵⁵ = 1 (`times-inverse` of proofs/Inverses shows x • x²⁵⁴ = 1)
unfoldable pub inverse : ℕ → ℕ
inverse x = power x 254
