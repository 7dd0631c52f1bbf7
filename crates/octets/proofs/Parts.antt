-- Lists that are written in order, and what a store, a block or a part leaves: `upto x d j` is the first j of the target x, then d.
-- Assumes nothing.
use mathlib.Core.Path.{◌≡◌, refl, sym, ap, ◌∙◌, subst}
use mathlib.Core.List.{List, [], ◌∷◌, ◌++◌, append_assoc, append-nil}
use Prim.Native.Nat.{ℕ, zero, suc, ◌+◌, ◌-◌, ◌≤◌, ◌<◌}
use native.Mathlib.Nat.{le_of_suc-le-suc, not-suc-le-zero, sub-zero, zero-sub, suc-sub-suc}
use native.Mathlib.Numerals.{add-one}
use native.Mathlib.Omega.{arith}
use lib.ListN.{length, take, drop, get_or, set, replicate, length-append, length-drop, length-replicate, drop_of_length-le}
use lib.Seq.{take_at, drop_at, take_all, length-take-le, get_or-take, get_or-drop, set_at}
use borrow.Rule.Slice.PartMut.{put_mid}
use Rattle.octets.specs.Octets.{Bytes, Block, table, padded}
use Rattle.octets.proofs.Tables.{is_table, table_block}

abbrev pub upto : List ℕ → List ℕ → ℕ → List ℕ
upto x d j = take j x ++ drop j d

one_more : (x d : List ℕ) (j v : ℕ) → j < length x → j < length d → v ≡ get_or x j 0 → set (upto x d j) j v ≡ upto x d (suc j)
one_more [] d j v hx hd e = absurd (not-suc-le-zero hx)
one_more (x ∷ xs) [] j v hx hd e = absurd (not-suc-le-zero hd)
one_more (x ∷ xs) (y ∷ ys) zero v hx hd e = ap (λ (z : ℕ). z ∷ ys) e
one_more (x ∷ xs) (y ∷ ys) (suc j) v hx hd e = ap (λ (l : List ℕ). x ∷ l) (one_more xs ys j v (le_of_suc-le-suc hx) (le_of_suc-le-suc hd) e)

-- a turn's store
pub upto_turn : (l x d : List ℕ) (j v : ℕ) → l ≡ upto x d j → j < length x → j < length d → v ≡ get_or x j 0 → set l j v ≡ upto x d (j + 1)
upto_turn l x d j v e hx hd ev = ap (λ (m : List ℕ). set m j v) e ∙ rw add-one (one_more x d j v hx hd ev)

-- after the last
pub upto_end : (l x d : List ℕ) (j : ℕ) → l ≡ upto x d j → length x ≤ j → length d ≤ j → l ≡ x
upto_end l x d j e hx hd = e ∙ rw (take_all j x hx, drop_of_length-le d hd) (append-nil x)

-- what is not yet written is as it was
pub upto_ahead : (x d : List ℕ) (j : ℕ) → j ≤ length x → j < length d → get_or (upto x d j) j 0 ≡ get_or d j 0
upto_ahead x d zero h k = refl
upto_ahead [] d (suc j) h k = absurd (not-suc-le-zero h)
upto_ahead (x ∷ xs) [] (suc j) h k = absurd (not-suc-le-zero k)
upto_ahead (x ∷ xs) (y ∷ ys) (suc j) h k = upto_ahead xs ys j (le_of_suc-le-suc h) (le_of_suc-le-suc k)

-- ---- the sixteen bytes at a place

pub part_length : (s : List ℕ) (at : ℕ) → at + 16 ≤ length s → length (take 16 (drop at s)) ≡ 16
part_length s at h = length-take-le 16 (drop at s) (simp length-drop (omega arith))

pub part_at : (s : List ℕ) (at i : ℕ) → i < 16 → get_or (take 16 (drop at s)) i 0 ≡ get_or s (at + i) 0
part_at s at i h = get_or-take 16 (drop at s) i 0 h ∙ get_or-drop at s i 0

pub part_bytes : (s : List ℕ) (at : ℕ) → Bytes s → Bytes (drop at s)
part_bytes s at p = record { at = λ i. subst (λ (x : ℕ). x < 256) (sym (get_or-drop at s i 0)) (p.at (at + i)) }

pub part-table : (s : List ℕ) (at : ℕ) → at + 16 ≤ length s → table (λ i. get_or s (at + i) 0) 16 ≡ take 16 (drop at s)
part-table s at h = sym (is_table (λ i. get_or s (at + i) 0) 16 (take 16 (drop at s)) (part_length s at h) (part_at s at))

pub part_block : (s : List ℕ) (at : ℕ) → at + 16 ≤ length s → Bytes s → Block (take 16 (drop at s))
part_block s at h p = subst Block (part-table s at h) (table_block (λ i. get_or s (at + i) 0) (λ i b. p.at (at + i)))

-- ---- n bytes laid in at a place

module _ (s b : List ℕ) (at n : ℕ) (fits : at + n ≤ length s) (lb : length b ≡ n) where
  head_length : length (take at s ++ b) ≡ at + n
  head_length = length-append (take at s) b ∙ rw (length-take-le at s (omega arith), lb)

  pub put_take : take (at + n) (take at s ++ (b ++ drop (at + n) s)) ≡ take at s ++ b
  put_take = rw (← append_assoc) (take_at (take at s ++ b) (drop (at + n) s) (at + n) head_length)

  pub put_drop : drop (at + n) (take at s ++ (b ++ drop (at + n) s)) ≡ drop (at + n) s
  put_drop = rw (← append_assoc) (drop_at (take at s ++ b) (drop (at + n) s) (at + n) head_length)

  pub put_length : length (take at s ++ (b ++ drop (at + n) s)) ≡ length s
  put_length = simp (length-append, length-drop, lb, length-take-le at s (omega arith)) (omega arith)

-- ---- a part of a slice that goes to its end, lent and given back

pub rest_is : (s : List ℕ) (at : ℕ) → take (length s - at) (drop at s) ≡ drop at s
rest_is s at = take_all (length s - at) (drop at s) (simp length-drop (omega arith))

pub rest_put : (at : ℕ) (s y : List ℕ) → put_mid at (length s - at) s y ≡ take at s ++ y
rest_put at s y =
    let e : length (drop at s) ≤ length s - at = simp length-drop (omega arith) in
    ap (λ (z : List ℕ). take at s ++ (y ++ z)) (drop_of_length-le (drop at s) e) ∙ ap (λ (z : List ℕ). take at s ++ z) (append-nil y)

-- ---- padding

pub drop_zeros : (k n v : ℕ) → drop k (replicate n v) ≡ replicate (n - k) v
drop_zeros zero n v = simp sub-zero
drop_zeros (suc k) zero v = simp zero-sub
drop_zeros (suc k) (suc n) v = drop_zeros k n v ∙ simp suc-sub-suc

pub padded_is : (s x : List ℕ) → x ≡ s → length s < 16 → set (x ++ drop (length s) (replicate 16 0)) (length s) 0x80 ≡ padded s
unfolding padded
padded_is s x p h =
    let e : 16 - length s ≡ suc (15 - length s) = omega arith in
    ap (λ (y : List ℕ). set (y ++ drop (length s) (replicate 16 0)) (length s) 128) p
    ∙ ap (λ (y : List ℕ). set (s ++ y) (length s) 128) (drop_zeros (length s) 16 0 ∙ ap (λ (n : ℕ). replicate n 0) e)
    ∙ set_at s 0 (replicate (15 - length s) 0) 128 (length s) refl

pub padded-length : (s : List ℕ) → length s < 16 → length (padded s) ≡ 16
unfolding padded
padded-length s h = simp (length-append, length-replicate) (omega arith)
