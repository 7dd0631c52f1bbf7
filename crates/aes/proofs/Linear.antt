-- Functions of a column that keep XOR. Two of them that agree where one byte is a power of 2 and the others are 0 agree on every
-- column: 33 computed values say what 2³² would.
-- Assumes nothing.
use mathlib.Core.Path.{◌≡◌, refl, sym, ap, ap₂, ◌∙◌, subst}
use mathlib.Core.Bool.{Bool}
use Prim.Native.Nat.{ℕ, zero, suc, ◌+◌, ◌*◌, ◌/◌, ◌%◌, ◌^◌, ◌<◌}
use native.Mathlib.Nat.{mod-lt, zero-lt-suc, add-zero, zero-mul, one-mul, div-lt_iff_lt-mul, mul_comm, zero-add, pow-suc}
use native.Mathlib.Omega.{arith}
use lib.Arith.{lt-one}
use lib.Bits.{bit_xor, differ, xor_block, xor_shr, xor_mod, xor_lt, xor_self, xor_shifted, xor_zero_r}
use lib.Dec.{T, eqb, eqb→eq}
use lib.Pow.{pow_pos, split}
use Rattle.octets.specs.Octets.{pick}
use Rattle.octets.proofs.Xor.{odd_lt, xor_odd, xor_swap}
use Rattle.octets.proofs.Tables.{both_left, both_right}
use Rattle.field.specs.Field.{double, product_of, times}

-- ---- doubling and products keep XOR, and give bytes

twice : (a b : ℕ) → bit_xor a b * 2 ≡ bit_xor (a * 2) (b * 2)
twice a b =
    sym (add-zero (bit_xor a b * 2)) ∙ sym (xor_block 1 a b 0 0 (zero-lt-suc 1) (zero-lt-suc 1))
    ∙ ap₂ bit_xor (add-zero (a * 2)) (add-zero (b * 2))

-- a multiple of a bit
bit-times : (k s t : ℕ) → s < 2 → t < 2 → differ s t * k ≡ bit_xor (s * k) (t * k)
bit-times k zero t hs ht = sym (ap (λ (x : ℕ). bit_xor x (t * k)) (zero-mul k))
bit-times k (suc zero) zero hs ht = sym (ap (bit_xor (1 * k)) (zero-mul k) ∙ xor_zero_r (1 * k))
bit-times k (suc zero) (suc zero) hs ht = zero-mul k ∙ sym (xor_self (1 * k))
bit-times k (suc zero) (suc (suc t)) hs ht = absurd (omega arith)
bit-times k (suc (suc s)) t hs ht = absurd (omega arith)

odd_times : (k a b : ℕ) → bit_xor a b % 2 * k ≡ bit_xor (a % 2 * k) (b % 2 * k)
odd_times k a b = ap (λ (x : ℕ). x * k) (xor_odd a b) ∙ bit-times k (a % 2) (b % 2) (odd_lt a) (odd_lt b)

pub double_xor : (a b : ℕ) → double (bit_xor a b) ≡ bit_xor (double a) (double b)
unfolding double
double_xor a b =
    ap₂ (λ (x y : ℕ). bit_xor (y % 2 * 27) (x * 2)) (xor_mod a b 7) (xor_shr a b 7)
    ∙ ap₂ bit_xor (odd_times 27 (a / 128) (b / 128)) (twice (a % 128) (b % 128))
    ∙ xor_swap (a / 128 % 2 * 27) (b / 128 % 2 * 27) (a % 128 * 2) (b % 128 * 2)

pub double_lt : (x : ℕ) → double x < 256
unfolding double
double_lt x =
    xor_lt 8 (x / 128 % 2 * 27) (x % 128 * 2)
    (let h : x / 128 % 2 < 2 = odd_lt (x / 128) in omega arith)
    (let h : x % 128 < 128 = mod-lt x (zero-lt-suc 127) in omega arith)

bit_of_xor : (s x y : ℕ) → s < 2 → s * bit_xor x y ≡ bit_xor (s * x) (s * y)
bit_of_xor zero x y h = zero-mul (bit_xor x y) ∙ sym (ap₂ bit_xor (zero-mul x) (zero-mul y))
bit_of_xor (suc zero) x y h = one-mul (bit_xor x y) ∙ sym (ap₂ bit_xor (one-mul x) (one-mul y))
bit_of_xor (suc (suc s)) x y h = absurd (omega arith)

product_xor : (n c x y : ℕ) → product_of n c (bit_xor x y) ≡ bit_xor (product_of n c x) (product_of n c y)
product_xor zero c x y = refl
product_xor (suc n) c x y =
    ap₂ bit_xor (bit_of_xor (c % 2) x y (odd_lt c)) (ap (product_of n (c / 2)) (double_xor x y) ∙ product_xor n (c / 2) (double x) (double y))
    ∙ xor_swap (c % 2 * x) (c % 2 * y) (product_of n (c / 2) (double x)) (product_of n (c / 2) (double y))

times_xor : (c x y : ℕ) → times c (bit_xor x y) ≡ bit_xor (times c x) (times c y)
unfolding times
times_xor c x y = product_xor 8 c x y

bit_lt : (s x : ℕ) → s < 2 → x < 256 → s * x < 256
bit_lt zero x hs hx = subst (λ (y : ℕ). y < 256) (sym (zero-mul x)) (omega arith)
bit_lt (suc zero) x hs hx = subst (λ (y : ℕ). y < 256) (sym (one-mul x)) hx
bit_lt (suc (suc s)) x hs hx = absurd (omega arith)

product_lt : (n c x : ℕ) → x < 256 → product_of n c x < 256
product_lt zero c x h = omega arith
product_lt (suc n) c x h =
    xor_lt 8 (c % 2 * x) (product_of n (c / 2) (double x)) (bit_lt (c % 2) x (odd_lt c) h) (product_lt n (c / 2) (double x) (double_lt x))

pub times_lt : (c x : ℕ) → x < 256 → times c x < 256
unfolding times
times_lt c x h = product_lt 8 c x h

-- ---- functions of a column

pub record Additive (f : ℕ → ℕ → ℕ → ℕ → ℕ) : Type 0 where
  pub keeps : (a b c d a' b' c' d' : ℕ) → f (bit_xor a a') (bit_xor b b') (bit_xor c c') (bit_xor d d') ≡ bit_xor (f a b c d) (f a' b' c' d')

pub first : Additive (λ a b c d. a)
first = record { keeps = λ a b c d a' b' c' d'. refl }

pub second : Additive (λ a b c d. b)
second = record { keeps = λ a b c d a' b' c' d'. refl }

pub third : Additive (λ a b c d. c)
third = record { keeps = λ a b c d a' b' c' d'. refl }

pub fourth : Additive (λ a b c d. d)
fourth = record { keeps = λ a b c d a' b' c' d'. refl }

module _ {f g : ℕ → ℕ → ℕ → ℕ → ℕ} (p : Additive f) (q : Additive g) where
  pub sum : Additive (λ a b c d. bit_xor (f a b c d) (g a b c d))
  sum = record {
    keeps = λ a b c d a' b' c' d'.
        ap₂ bit_xor (p.keeps a b c d a' b' c' d') (q.keeps a b c d a' b' c' d')
        ∙ xor_swap (f a b c d) (f a' b' c' d') (g a b c d) (g a' b' c' d');
  }

module _ {f : ℕ → ℕ → ℕ → ℕ → ℕ} (p : Additive f) where
  pub product : (k : ℕ) → Additive (λ a b c d. times k (f a b c d))
  product k = record {
    keeps = λ a b c d a' b' c' d'. ap (times k) (p.keeps a b c d a' b' c' d') ∙ times_xor k (f a b c d) (f a' b' c' d');
  }

  pub doubled : Additive (λ a b c d. double (f a b c d))
  doubled = record {
    keeps = λ a b c d a' b' c' d'. ap double (p.keeps a b c d a' b' c' d') ∙ double_xor (f a b c d) (f a' b' c' d');
  }

  -- f of a column that is made of g, h, i and j
  module _ {g h i j : ℕ → ℕ → ℕ → ℕ → ℕ} (q : Additive g) (r : Additive h) (s : Additive i) (t : Additive j) where
    pub after : Additive (λ a b c d. f (g a b c d) (h a b c d) (i a b c d) (j a b c d))
    after = record {
      keeps = λ a b c d a' b' c' d'.
          rw (q.keeps a b c d a' b' c' d', r.keeps a b c d a' b' c' d', s.keeps a b c d a' b' c' d', t.keeps a b c d a' b' c' d')
          (p.keeps (g a b c d) (h a b c d) (i a b c d) (j a b c d) (g a' b' c' d') (h a' b' c' d') (i a' b' c' d') (j a' b' c' d'));
    }

-- ---- agreement on the powers of 2 below 2 ^ n is agreement below 2 ^ n

abbrev basis : (ℕ → ℕ) → (ℕ → ℕ) → ℕ → Bool
basis f g zero = eqb (f 0) (g 0)
basis f g (suc n) = pick (eqb (f (2 ^ n)) (g (2 ^ n))) (basis f g n) Bool.false

module _ (f g : ℕ → ℕ) (p : (x y : ℕ) → f (bit_xor x y) ≡ bit_xor (f x) (f y)) (q : (x y : ℕ) → g (bit_xor x y) ≡ bit_xor (g x) (g y)) where
  one_more : (n s r : ℕ) → s < 2 → r < 2 ^ n → f (2 ^ n) ≡ g (2 ^ n) → f r ≡ g r → f (s * 2 ^ n + r) ≡ g (s * 2 ^ n + r)
  one_more n zero r hs hr e h =
      let z : 0 * 2 ^ n + r ≡ r = ap (λ (x : ℕ). x + r) (zero-mul (2 ^ n)) ∙ zero-add r in ap f z ∙ h ∙ sym (ap g z)
  one_more n (suc zero) r hs hr e h =
      let z : 1 * 2 ^ n + r ≡ bit_xor (2 ^ n) r = sym (xor_shifted 1 n r hr) ∙ ap (λ (x : ℕ). bit_xor x r) (one-mul (2 ^ n)) in
      ap f z ∙ p (2 ^ n) r ∙ ap₂ bit_xor e h ∙ sym (q (2 ^ n) r) ∙ sym (ap g z)
  one_more n (suc (suc s)) r hs hr e h = absurd (omega arith)

  same_byte : (n : ℕ) → T (basis f g n) → (x : ℕ) → x < 2 ^ n → f x ≡ g x
  same_byte zero t x h = subst (λ (y : ℕ). f y ≡ g y) (sym (lt-one h)) (eqb→eq (f 0) (g 0) t)
  same_byte (suc n) t x h =
      subst (λ (y : ℕ). f y ≡ g y) (split x n)
      (one_more n (x / 2 ^ n) (x % 2 ^ n)
      ((div-lt_iff_lt-mul (pow_pos n)).1 (subst (λ (y : ℕ). x < y) (pow-suc 2 n ∙ mul_comm (2 ^ n) 2) h))
      (mod-lt x (pow_pos n))
      (eqb→eq (f (2 ^ n)) (g (2 ^ n)) (both_left (eqb (f (2 ^ n)) (g (2 ^ n))) (basis f g n) t))
      (same_byte n (both_right (eqb (f (2 ^ n)) (g (2 ^ n))) (basis f g n) t) (x % 2 ^ n) (mod-lt x (pow_pos n))))

-- the computed test: at each place of the column, the others 0
abbrev pub Agree : (ℕ → ℕ → ℕ → ℕ → ℕ) → (ℕ → ℕ → ℕ → ℕ → ℕ) → Type 0
Agree f g =
    T (basis (λ x. f x 0 0 0) (λ x. g x 0 0 0) 8) × T (basis (λ x. f 0 x 0 0) (λ x. g 0 x 0 0) 8)
    × T (basis (λ x. f 0 0 x 0) (λ x. g 0 0 x 0) 8) × T (basis (λ x. f 0 0 0 x) (λ x. g 0 0 0 x) 8)

module _ {f : ℕ → ℕ → ℕ → ℕ → ℕ} (p : Additive f) where
  by_places : (a b c d : ℕ) → f a b c d ≡ bit_xor (bit_xor (f a 0 0 0) (f 0 b 0 0)) (bit_xor (f 0 0 c 0) (f 0 0 0 d))
  by_places a b c d =
      sym (rw (← p.keeps a 0 0 0 0 b 0 0, ← p.keeps 0 0 c 0 0 0 0 d, ← p.keeps (bit_xor a 0) b 0 0 0 0 (bit_xor c 0) d)
      (rw (xor_zero_r a, xor_zero_r c, xor_zero_r a, xor_zero_r b)))

module _ {f g : ℕ → ℕ → ℕ → ℕ → ℕ} (p : Additive f) (q : Additive g) where
  pub same : Agree f g → (a b c d : ℕ) → a < 256 → b < 256 → c < 256 → d < 256 → f a b c d ≡ g a b c d
  same t a b c d ha hb hc hd =
      by_places p a b c d
      ∙ ap₂ bit_xor
      (ap₂ bit_xor
      (same_byte (λ x. f x 0 0 0) (λ x. g x 0 0 0) (λ x y. p.keeps x 0 0 0 y 0 0 0) (λ x y. q.keeps x 0 0 0 y 0 0 0) 8 t.0 a ha)
      (same_byte (λ x. f 0 x 0 0) (λ x. g 0 x 0 0) (λ x y. p.keeps 0 x 0 0 0 y 0 0) (λ x y. q.keeps 0 x 0 0 0 y 0 0) 8 t.1 b hb))
      (ap₂ bit_xor
      (same_byte (λ x. f 0 0 x 0) (λ x. g 0 0 x 0) (λ x y. p.keeps 0 0 x 0 0 0 y 0) (λ x y. q.keeps 0 0 x 0 0 0 y 0) 8 t.2 c hc)
      (same_byte (λ x. f 0 0 0 x) (λ x. g 0 0 0 x) (λ x y. p.keeps 0 0 0 x 0 0 0 y) (λ x y. q.keeps 0 0 0 x 0 0 0 y) 8 t.3 d hd))
      ∙ sym (by_places q a b c d)
