-- Lists given by a function of the place: their laws, the loop that fills one, and rules of every byte by one computed test.
-- Assumes nothing.
use mathlib.Core.Path.{◌≡◌, refl, sym, ap, ◌∙◌, subst}
use mathlib.Core.Bool.{Bool, true, false}
use mathlib.Core.Logic.{◌⊎◌, inl, inr, ⊎_elim}
use mathlib.Core.List.{List}
use Prim.Native.Nat.{ℕ, zero, suc, ◌+◌, ◌≤◌, ◌<◌, zero-le, suc-le-suc}
use native.Mathlib.Nat.{add-zero, zero-add, add-suc, suc-add, le_of_suc-le-suc, not-suc-le-zero, le_trans, lt_irrefl, eq-or-lt_of_le}
use native.Mathlib.Omega.{arith}
use mir.Val.{Fits}
use mir.Syntax.{w8}
use lib.Bits.{bit_xor}
use lib.Dec.{T, eqb, eqb→eq, ltb, ltb→lt, lit<}
use lib.ListN.{length, get_or, set, length-set, get_or-eq_default}
use lib.Seq.{ext_get_or, get_or-set_same, get_or-set_other}
use borrow.Author.Count.{below_more}
use denote.Param.Members.{Mut, Called}
use Rattle.std.specs.Array.{IsFromFnResultFrom, IsFromFnResult}
use Rattle.octets.specs.Octets.{Bytes, Block, pick, ◌⊕◌, table_from, table, each_byte}
use Rattle.octets.proofs.Xor.{⊕-length, ⊕_at}

-- a byte of the code is a byte
pub byte : {n : ℕ} → Fits w8 n → n < 256
byte h = h.fits

from_length : (f : ℕ → ℕ) (i n : ℕ) → length (table_from f i n) ≡ n
from_length f i zero = refl
from_length f i (suc n) = ap suc (from_length f (suc i) n)

from_at : (f : ℕ → ℕ) (i n k : ℕ) → k < n → get_or (table_from f i n) k 0 ≡ f (i + k)
from_at f i zero k h = absurd (not-suc-le-zero h)
from_at f i (suc n) zero h = ap f (sym (add-zero i))
from_at f i (suc n) (suc k) h = from_at f (suc i) n k (le_of_suc-le-suc h) ∙ ap f (suc-add i k ∙ sym (add-suc i k))

pub table-length : (f : ℕ → ℕ) (n : ℕ) → length (table f n) ≡ n
unfolding table
table-length f n = from_length f 0 n

pub table_at : (f : ℕ → ℕ) (n k : ℕ) → k < n → get_or (table f n) k 0 ≡ f k
unfolding table
table_at f n k h = from_at f 0 n k h ∙ ap f (zero-add k)

-- a list is the table of f where it is as long and has f k at each place k
pub is_table : (f : ℕ → ℕ) (n : ℕ) (l : List ℕ) → length l ≡ n → ((k : ℕ) → k < n → get_or l k 0 ≡ f k) → l ≡ table f n
is_table f n l e h =
    ext_get_or 0 l (table f n) (e ∙ sym (table-length f n))
    (λ k b. let b' : k < n = subst (λ (m : ℕ). k < m) e b in h k b' ∙ sym (table_at f n k b'))

pub table_eq : (f g : ℕ → ℕ) (n : ℕ) → ((k : ℕ) → k < n → f k ≡ g k) → table f n ≡ table g n
table_eq f g n h = is_table g n (table f n) (table-length f n) (λ k b. table_at f n k b ∙ h k b)

-- a list, spelt out
pub spelt : (s : List ℕ) {n : ℕ} → length s ≡ n → table (λ i. get_or s i 0) n ≡ s
spelt s {n} e = sym (is_table (λ i. get_or s i 0) n s e (λ k h. refl))

pub lt_or_ge : (i n : ℕ) → (i < n) ⊎ (n ≤ i)
lt_or_ge i zero = inr zero-le
lt_or_ge zero (suc n) = inl (suc-le-suc zero-le)
lt_or_ge (suc i) (suc n) = ⊎_elim (λ h. inl (suc-le-suc h)) (λ h. inr (suc-le-suc h)) (lt_or_ge i n)

pub table_block : (f : ℕ → ℕ) → ((k : ℕ) → k < 16 → f k < 256) → Block (table f 16)
table_block f h = record {
  size = table-length f 16;
  bytes = record {
    at = λ i. ⊎_elim
        (λ b. subst (λ (x : ℕ). x < 256) (sym (table_at f 16 i b)) (h i b))
        (λ b. subst (λ (x : ℕ). x < 256) (sym (get_or-eq_default (table f 16) 0 (subst (λ (n : ℕ). n ≤ i) (sym (table-length f 16)) b))) (lit< tt))
        (lt_or_ge i 16);
  };
}

-- ---- each byte of a block

pub each_block : {f : ℕ → ℕ} {s : List ℕ} → ((x : ℕ) → x < 256 → f x < 256) → Bytes s → Block (each_byte f s)
unfolding each_byte
each_block {f} {s} h p = table_block (λ i. f (get_or s i 0)) (λ k b. h (get_or s k 0) (p.at k))

pub each_at : (f : ℕ → ℕ) (s : List ℕ) (i : ℕ) → i < 16 → get_or (each_byte f s) i 0 ≡ f (get_or s i 0)
unfolding each_byte
each_at f s i h = table_at (λ j. f (get_or s j 0)) 16 i h

-- what undoes each byte undoes the block
pub each_undone : (f g : ℕ → ℕ) {s : List ℕ} → ((x : ℕ) → x < 256 → g (f x) ≡ x) → Block s → each_byte g (each_byte f s) ≡ s
unfolding each_byte
each_undone f g {s} undo p =
    sym (is_table (λ i. g (get_or (each_byte f s) i 0)) 16 s p.size
    (λ k b. sym (ap g (each_at f s k b) ∙ undo (get_or s k 0) (p.bytes.at k))))

-- ---- a loop that fills a list of n from the front: what holds after i stores of f 0, f 1, ..

pub record Filled (f : ℕ → ℕ) (n : ℕ) (l : List ℕ) (i : ℕ) : Type 0 where
  pub size : length l ≡ n
  pub upto : i ≤ n
  pub cells : (k : ℕ) → k < i → get_or l k 0 ≡ f k

pub filled_none : {f : ℕ → ℕ} {n : ℕ} {l : List ℕ} → length l ≡ n → Filled f n l 0
filled_none e = record { size = e; upto = zero-le; cells = λ k h. absurd (not-suc-le-zero h) }

pub filled_more : {f : ℕ → ℕ} {n : ℕ} {l : List ℕ} {i : ℕ} (v : ℕ) → Filled f n l i → i < n → v ≡ f i → Filled f n (set l i v) (i + 1)
filled_more {f} {n} {l} {i} v p h e = record {
  size = length-set l i v ∙ p.size;
  upto = omega arith;
  cells =
      below_more (λ (k : ℕ). get_or (set l i v) k 0 ≡ f k) i
      (λ k b. get_or-set_other l i k v 0 (λ q. lt_irrefl i (subst (λ (m : ℕ). m < i) q b)) ∙ p.cells k b)
      (get_or-set_same l i v 0 (subst (λ (m : ℕ). i < m) (sym p.size) h) ∙ e);
}

pub filled_all : {f : ℕ → ℕ} {n : ℕ} {l : List ℕ} {i : ℕ} → Filled f n l i → n ≤ i → l ≡ table f n
filled_all {f} {n} {l} {i} p h = is_table f n l p.size (λ k b. p.cells k (le_trans b h))

-- XOR of two blocks, by place
pub xor_table : (s t : List ℕ) → length s ≡ 16 → length t ≡ 16 → table (λ i. bit_xor (get_or s i 0) (get_or t i 0)) 16 ≡ s ⊕ t
xor_table s t p q =
    sym (is_table (λ i. bit_xor (get_or s i 0) (get_or t i 0)) 16 (s ⊕ t) (⊕-length s t (omega arith) ∙ p)
    (λ k h. ⊕_at s t k (omega arith) (omega arith)))

-- ---- tests that antt computes, at every number below n

pub both_left : (a b : Bool) → T (pick a b false) → T a
both_left true b t = tt
both_left false b t = t

pub both_right : (a b : Bool) → T (pick a b false) → T b
both_right true b t = t
both_right false b t = absurd t

abbrev pub all_below : (ℕ → Bool) → ℕ → Bool
all_below f zero = true
all_below f (suc n) = pick (f n) (all_below f n) false

pub below : (f : ℕ → Bool) (n : ℕ) → T (all_below f n) → (x : ℕ) → x < n → T (f x)
below f zero t x h = absurd (not-suc-le-zero h)
below f (suc n) t x h =
    ⊎_elim (λ e. subst (λ (y : ℕ). T (f y)) (sym e) (both_left (f n) (all_below f n) t))
    (λ l. below f n (both_right (f n) (all_below f n) t) x l) (eq-or-lt_of_le (le_of_suc-le-suc h))

abbrev pub agree : (ℕ → ℕ) → (ℕ → ℕ) → ℕ → Bool
agree f g n = all_below (λ x. eqb (f x) (g x)) n

-- two functions that agree below n
pub agreed : (f g : ℕ → ℕ) (n : ℕ) → T (agree f g n) → (x : ℕ) → x < n → f x ≡ g x
agreed f g n t x h = eqb→eq (f x) (g x) (below (λ y. eqb (f y) (g y)) n t x h)

-- a function that stays below m at every number below n
pub bounded : (f : ℕ → ℕ) (m n : ℕ) → T (all_below (λ x. ltb (f x) m) n) → (x : ℕ) → x < n → f x < m
bounded f m n t x h = ltb→lt (f x) m (below (λ y. ltb (f y) m) n t x h)

-- a list written out is the table of f, by one test over its places
pub table_tested : (f : ℕ → ℕ) (n : ℕ) (l : List ℕ) → length l ≡ n → T (agree (λ k. get_or l k 0) f n) → l ≡ table f n
table_tested f n l e t = is_table f n l e (agreed (λ k. get_or l k 0) f n t)

-- ---- what `array::from_fn` makes, by a closure whose calls leave it as it was

module _ {F : Type 0} (R : ℕ → ℕ → Type 0) (g : Mut F (ℕ × Unit {0}) ℕ) (s : F) (l : List ℕ)
    (call : (i : ℕ) (t : F) (y : ℕ) → Called g s (i, tt) y t → R i y × (t ≡ s)) where
  made_from : (i n : ℕ) (t : F) → t ≡ s → IsFromFnResultFrom g t l i n → (k : ℕ) → k < n → R (i + k) (get_or l (i + k) 0)
  made_from i zero t e r k h = absurd (not-suc-le-zero h)
  made_from i (suc n) t e r zero h =
      rw add-zero (subst (R i) (sym (r.2.1 0)) (call i r.0 r.1 (subst (λ (u : F). Called g u (i, tt) r.1 r.0) e r.3)).0)
  made_from i (suc n) t e r (suc k) h =
      let next : i + 1 + k ≡ i + suc k = omega arith in
      subst (λ (j : ℕ). R j (get_or l j 0)) next
      (made_from (i + 1) n r.0 (call i r.0 r.1 (subst (λ (u : F). Called g u (i, tt) r.1 r.0) e r.3)).1 r.4 k (le_of_suc-le-suc h))

  pub made_at : (n : ℕ) → IsFromFnResult g s l n → (k : ℕ) → k < n → R k (get_or l k 0)
  made_at n r k h = subst (λ (j : ℕ). R j (get_or l j 0)) (zero-add k) (made_from 0 n s refl r.each k h)

pub made_table : {F : Type 0} (f : ℕ → ℕ) (g : Mut F (ℕ × Unit {0}) ℕ) (s : F) (l : List ℕ)
    → ((i : ℕ) (t : F) (y : ℕ) → Called g s (i, tt) y t → (y ≡ f i) × (t ≡ s)) → (n : ℕ) → IsFromFnResult g s l n → l ≡ table f n
made_table f g s l call n r = is_table f n l r.long (made_at (λ i y. y ≡ f i) g s l call n r)
