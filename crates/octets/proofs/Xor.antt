-- XOR of numbers: the laws that lib.Bits lacks; and of lists of numbers.
-- Assumes nothing.
use mathlib.Core.Path.{◌≡◌, refl, sym, ap, ap₂, ◌∙◌}
use mathlib.Core.List.{List, [], ◌∷◌, ◌++◌}
use Prim.Native.Nat.{ℕ, zero, suc, ◌*◌, ◌+◌, ◌/◌, ◌%◌, ◌≤◌, ◌<◌}
use native.Mathlib.Nat.{le_of_suc-le-suc, not-suc-le-zero, mod-lt, zero-lt-suc, suc_inj, suc-ne-zero}
use native.Mathlib.Omega.{arith}
use lib.Arith.{bin_ind, digits_div, digits_mod}
use lib.Bits.{differ, bit_xor, xor_step, xor_comm, xor_self, xor_zero_r, xor_lt}
use lib.Dec.{lit<}
use lib.ListN.{length, get_or, replicate}
use Rattle.octets.specs.Octets.{Bytes, Block, ◌⊕◌, zero_block}

differ_lt : (x y : ℕ) → x < 2 → y < 2 → differ x y < 2
differ_lt zero y hx hy = hy
differ_lt (suc x) zero hx hy = hx
differ_lt (suc x) (suc y) hx hy = differ_lt x y (omega arith) (omega arith)

differ_assoc : (x y z : ℕ) → x < 2 → y < 2 → z < 2 → differ (differ x y) z ≡ differ x (differ y z)
differ_assoc zero y z hx hy hz = refl
differ_assoc (suc zero) zero z hx hy hz = refl
differ_assoc (suc zero) (suc zero) zero hx hy hz = refl
differ_assoc (suc zero) (suc zero) (suc zero) hx hy hz = refl
differ_assoc (suc zero) (suc zero) (suc (suc z)) hx hy hz = absurd (omega arith)
differ_assoc (suc zero) (suc (suc y)) z hx hy hz = absurd (omega arith)
differ_assoc (suc (suc x)) y z hx hy hz = absurd (omega arith)

pub odd_lt : (n : ℕ) → n % 2 < 2
odd_lt n = mod-lt n (zero-lt-suc 1)

half : (a b : ℕ) → bit_xor a b / 2 ≡ bit_xor (a / 2) (b / 2)
half a b =
    ap (λ (x : ℕ). x / 2) (xor_step a b)
    ∙ digits_div (bit_xor (a / 2) (b / 2)) (differ_lt (a % 2) (b % 2) (odd_lt a) (odd_lt b))

pub xor_odd : (a b : ℕ) → bit_xor a b % 2 ≡ differ (a % 2) (b % 2)
xor_odd a b =
    ap (λ (x : ℕ). x % 2) (xor_step a b)
    ∙ digits_mod (bit_xor (a / 2) (b / 2)) (differ_lt (a % 2) (b % 2) (odd_lt a) (odd_lt b))

pub xor_assoc : (a b c : ℕ) → bit_xor (bit_xor a b) c ≡ bit_xor a (bit_xor b c)
xor_assoc a =
    bin_ind (λ (n : ℕ). (b c : ℕ) → bit_xor (bit_xor n b) c ≡ bit_xor n (bit_xor b c)) (λ b c. refl)
    (λ n ih b c.
    xor_step (bit_xor n b) c
    ∙ ap₂ (λ (x y : ℕ). bit_xor x (c / 2) * 2 + differ y (c % 2)) (half n b) (xor_odd n b)
    ∙ ap₂ (λ (x y : ℕ). x * 2 + y) (ih (b / 2) (c / 2)) (differ_assoc (n % 2) (b % 2) (c % 2) (odd_lt n) (odd_lt b) (odd_lt c))
    ∙ sym (ap₂ (λ (x y : ℕ). bit_xor (n / 2) x * 2 + differ (n % 2) y) (half b c) (xor_odd b c))
    ∙ sym (xor_step n (bit_xor b c)))
    a

xor_left_comm : (a b c : ℕ) → bit_xor a (bit_xor b c) ≡ bit_xor b (bit_xor a c)
xor_left_comm a b c = sym (xor_assoc a b c) ∙ ap (λ (x : ℕ). bit_xor x c) (xor_comm a b) ∙ xor_assoc b a c

pub xor_swap : (a b c d : ℕ) → bit_xor (bit_xor a b) (bit_xor c d) ≡ bit_xor (bit_xor a c) (bit_xor b d)
xor_swap a b c d = xor_assoc a b (bit_xor c d) ∙ ap (bit_xor a) (xor_left_comm b c d) ∙ sym (xor_assoc a c (bit_xor b d))

pub xor_back : (a b : ℕ) → bit_xor (bit_xor a b) b ≡ a
xor_back a b = xor_assoc a b b ∙ ap (bit_xor a) (xor_self b) ∙ xor_zero_r a

-- ---- lists

pub cons_eq : {x y : ℕ} {s t : List ℕ} → x ≡ y → s ≡ t → x ∷ s ≡ y ∷ t
cons_eq p q = ap₂ (λ (z : ℕ) (u : List ℕ). z ∷ u) p q

pub ⊕-length : (s t : List ℕ) → length s ≤ length t → length (s ⊕ t) ≡ length s
unfolding ◌⊕◌
⊕-length [] t h = refl
⊕-length (x ∷ s) [] h = absurd (not-suc-le-zero h)
⊕-length (x ∷ s) (y ∷ t) h = ap suc (⊕-length s t (le_of_suc-le-suc h))

pub ⊕_at : (s t : List ℕ) (i : ℕ) → i < length s → i < length t → get_or (s ⊕ t) i 0 ≡ bit_xor (get_or s i 0) (get_or t i 0)
unfolding ◌⊕◌
⊕_at [] t i hs ht = absurd (not-suc-le-zero hs)
⊕_at (x ∷ s) [] i hs ht = absurd (not-suc-le-zero ht)
⊕_at (x ∷ s) (y ∷ t) zero hs ht = refl
⊕_at (x ∷ s) (y ∷ t) (suc i) hs ht = ⊕_at s t i (le_of_suc-le-suc hs) (le_of_suc-le-suc ht)

-- XORed in twice, a list is gone
pub ⊕_back : (s t : List ℕ) → length s ≤ length t → (s ⊕ t) ⊕ t ≡ s
unfolding ◌⊕◌
⊕_back [] t h = refl
⊕_back (x ∷ s) [] h = absurd (not-suc-le-zero h)
⊕_back (x ∷ s) (y ∷ t) h = cons_eq (xor_back x y) (⊕_back s t (le_of_suc-le-suc h))

pub ⊕-append : (s t u v : List ℕ) → length s ≡ length u → (s ++ t) ⊕ (u ++ v) ≡ (s ⊕ u) ++ (t ⊕ v)
unfolding ◌⊕◌
⊕-append [] t [] v e = refl
⊕-append [] t (z ∷ u) v e = absurd (suc-ne-zero (length u) (sym e))
⊕-append (x ∷ s) t [] v e = absurd (suc-ne-zero (length s) e)
⊕-append (x ∷ s) t (z ∷ u) v e = cons_eq refl (⊕-append s t u v (suc_inj e))

zeros_⊕ : (n : ℕ) (s : List ℕ) → length s ≤ n → replicate n 0 ⊕ s ≡ s
unfolding ◌⊕◌
zeros_⊕ zero [] h = refl
zeros_⊕ zero (x ∷ s) h = absurd (not-suc-le-zero h)
zeros_⊕ (suc n) [] h = refl
zeros_⊕ (suc n) (x ∷ s) h = cons_eq refl (zeros_⊕ n s (le_of_suc-le-suc h))

pub zero_⊕ : (s : List ℕ) → length s ≤ 16 → zero_block ⊕ s ≡ s
unfolding zero_block
zero_⊕ s h = zeros_⊕ 16 s h

pub ⊕_bytes : {s t : List ℕ} → Bytes s → Bytes t → Bytes (s ⊕ t)
unfolding ◌⊕◌
⊕_bytes {s} {t} p q = record { at = go s t p.at q.at }
  where
    go : (s t : List ℕ) → ((i : ℕ) → get_or s i 0 < 256) → ((i : ℕ) → get_or t i 0 < 256) → (i : ℕ) → get_or (s ⊕ t) i 0 < 256
    go [] t p q i = lit< tt
    go (x ∷ s) [] p q i = lit< tt
    go (x ∷ s) (y ∷ t) p q zero = xor_lt 8 x y (p 0) (q 0)
    go (x ∷ s) (y ∷ t) p q (suc i) = go s t (λ j. p (suc j)) (λ j. q (suc j)) i

pub ⊕_block : {s t : List ℕ} → Block s → Block t → Block (s ⊕ t)
⊕_block {s} {t} p q =
    let a : length s ≡ 16 = p.size in
    let b : length t ≡ 16 = q.size in
    record { size = ⊕-length s t (omega arith) ∙ a; bytes = ⊕_bytes p.bytes q.bytes }

-- XORed in twice, a block is gone
pub block_back : {s t : List ℕ} → Block s → Block t → (s ⊕ t) ⊕ t ≡ s
block_back {s} {t} p q =
    let a : length s ≡ 16 = p.size in
    let b : length t ≡ 16 = q.size in
    ⊕_back s t (omega arith)
