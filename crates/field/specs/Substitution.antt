-- FIPS 197, sections 5.1.1 and 5.3.2: the S-box and its inverse, by the inverse-and-affine rule.
-- Assumes nothing.
use Rattle.std.specs.Prelude.{ℕ, zero, suc, ◌+◌, ◌*◌, ◌%◌}
use Rattle.octets.specs.Octets.{bit}
use Rattle.field.specs.Field.{inverse}

-- the n bits f i, f (i + 1), .. as a number, f i the lowest
abbrev pub number_of : (ℕ → ℕ) → ℕ → ℕ → ℕ
number_of f i zero = 0
number_of f i (suc n) = f i + 2 * number_of f (suc i) n

-- (5.1): bit i is b(i) ⊕ b(i+4) ⊕ b(i+5) ⊕ b(i+6) ⊕ b(i+7) ⊕ c(i), places modulo 8, c = 0x63
unfoldable pub affine : ℕ → ℕ
affine b = number_of (λ i. (bit b i + bit b ((i + 4) % 8) + bit b ((i + 5) % 8) + bit b ((i + 6) % 8) + bit b ((i + 7) % 8) + bit 0x63 i) % 2) 0 8

-- the affine rule undone: bit i is b(i+2) ⊕ b(i+5) ⊕ b(i+7) ⊕ d(i), d = 0x05
unfoldable pub unaffine : ℕ → ℕ
unaffine b = number_of (λ i. (bit b ((i + 2) % 8) + bit b ((i + 5) % 8) + bit b ((i + 7) % 8) + bit 0x05 i) % 2) 0 8

-- the S-box: the inverse, then the affine rule
unfoldable pub sub : ℕ → ℕ
sub x = affine (inverse x)

-- the inverse S-box: the affine rule undone, then the inverse
unfoldable pub inv_sub : ℕ → ℕ
inv_sub x = inverse (unaffine x)
