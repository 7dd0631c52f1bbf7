-- Where a byte first stands; and no line is left out: the lines of a text, as many as `lines_of` counts, joined by line ends are the text.
-- Assumes nothing.
use borrow.Author.Tests.{ltb-false}
use Rattle.std.proofs.Common.{Option, Bool, true, false, cond, ◌≤◌, ◌≡◌, refl, sym, ap, ◌∙◌, arith, ℕ, zero, suc, ◌+◌, ◌-◌, List, [], ◌∷◌, ◌++◌, length, take, drop}
use lib.Seq.{drop-drop}
use Rattle.std.proofs.lemmas.List.{take_rest}
use Rattle.std.proofs.lemmas.List.Splits.{length-slice_split, join_with_byte-slice_split}
use Rattle.std.proofs.lemmas.List.Sums.{prefix_len-le-length}
use Rattle.std.specs.List.{join_with_byte, onto_first, position, position_or_len}
use Rattle.std.specs.Prelude.{Some, None, not, eqb, ltb, slice_get, unwrap_or}
use Rattle.lists.specs.Text.{index_of, parts_of, part_of, line_of, lines_of}

by_length : (n l : ℕ) (b : Bool) → n ≤ l → ltb n l ≡ b → unwrap_or (cond b (Some n) None) l ≡ n
by_length n l true h e = refl
by_length n l false h e = omega (arith, ltb-false n l e)

-- where no element passes, the first that does stands at the end
pub first_or_end : (p : ℕ → Bool) (s : List ℕ) → unwrap_or (position p s) (length s) ≡ position_or_len p s
first_or_end p s = by_length (position_or_len p s) (length s) (ltb (position_or_len p s) (length s)) (prefix_len-le-length (λ x. not (p x)) s) refl

-- f i, f (i + 1), .., n more of them, with b between two
abbrev pub joined : (ℕ → List ℕ) → ℕ → ℕ → ℕ → List ℕ
joined f b i zero = f i
joined f b i (suc n) = f i ++ (b ∷ joined f b (suc i) n)

abbrev nth : List (List ℕ) → ℕ → List ℕ
nth parts i = unwrap_or (slice_get parts i) []

-- a byte put before the parts is put before the first, and the others stay
onto_first_gains : (x : ℕ) (parts : List (List ℕ)) → nth (onto_first x parts) 0 ≡ x ∷ nth parts 0
onto_first_gains x [] = refl
onto_first_gains x (part ∷ parts) = refl

onto_first_only : (x k : ℕ) (parts : List (List ℕ)) → nth (onto_first x parts) (suc k) ≡ nth parts (suc k)
onto_first_only x k [] = refl
onto_first_only x k (part ∷ parts) = refl

-- the first part ends where the separator first stands
pub first_part : (b : ℕ) (s : List ℕ) → part_of b 0 s ≡ take (index_of b s) s
first_part b [] = refl
first_part b (x ∷ s) = by_first (eqb x b) (parts_of b s) (index_of b s) (first_part b s)
  where
    by_first : (t : Bool) (parts : List (List ℕ)) (n : ℕ) → nth parts 0 ≡ take n s
        → nth (cond t ([] ∷ parts) (onto_first x parts)) 0 ≡ take (cond (not t) (1 + n) 0) (x ∷ s)
    by_first true parts n e = refl
    by_first false parts n e = let m : 1 + n ≡ suc n = omega arith in rw m (onto_first_gains x parts ∙ ap (λ (l : List ℕ). x ∷ l) e)

-- the parts from the second on are those of what follows the first separator
pub next_part : (b k : ℕ) (s : List ℕ) → part_of b (suc k) s ≡ part_of b k (drop (suc (index_of b s)) s)
next_part b zero [] = refl
next_part b (suc k) [] = refl
next_part b k (x ∷ s) = by_first (eqb x b) (next_part b k s)
  where
    by_first : (t : Bool) → nth (parts_of b s) (suc k) ≡ part_of b k (drop (suc (index_of b s)) s)
        → nth (cond t ([] ∷ parts_of b s) (onto_first x (parts_of b s))) (suc k) ≡ part_of b k (drop (suc (cond (not t) (1 + index_of b s) 0)) (x ∷ s))
    by_first true e = refl
    by_first false e = let m : 1 + index_of b s ≡ suc (index_of b s) = omega arith in rw m (onto_first_only x k (parts_of b s) ∙ e)

-- past the separator that stands first
pub past_found : (b n from : ℕ) (s : List ℕ) → Some n ≡ position (λ x. eqb x b) (take (length s - from) (drop from s))
    → drop (from + n + 1) s ≡ drop (suc (index_of b (drop from s))) (drop from s)
past_found b n from s e =
    let rest = drop from s in
    let i = ap (λ (o : Option ℕ). unwrap_or o (length rest)) (rw (take_rest s from) at e) ∙ first_or_end (λ x. eqb x b) rest in
    let m : from + n + 1 ≡ from + suc n = omega arith in
    rw m (sym (drop-drop (suc n) from s)) ∙ ap (λ (k : ℕ). drop (suc k) rest) i

later : (b : ℕ) (x : List ℕ) (parts : List (List ℕ)) (i n : ℕ) → joined (nth (x ∷ parts)) b (suc i) n ≡ joined (nth parts) b i n
later b x parts i zero = refl
later b x parts i (suc n) = ap (λ (l : List ℕ). nth parts i ++ (b ∷ l)) (later b x parts (suc i) n)

parts_joined : (b : ℕ) (parts : List (List ℕ)) (n : ℕ) → length parts ≡ suc n → joined (nth parts) b 0 n ≡ join_with_byte b parts
parts_joined b [] n e = absurd (omega arith)
parts_joined b (x ∷ []) zero e = refl
parts_joined b (x ∷ []) (suc n) e = absurd (omega arith)
parts_joined b (x ∷ y ∷ parts) zero e = absurd (omega arith)
parts_joined b (x ∷ y ∷ parts) (suc n) e =
    ap (λ (l : List ℕ). x ++ (b ∷ l)) (later b x (y ∷ parts) 0 n ∙ parts_joined b (y ∷ parts) n (omega arith))

pub lines_joined : (s : List ℕ) → joined (λ i. line_of i s) 10 0 (lines_of s - 1) ≡ s
lines_joined s = parts_joined 10 (parts_of 10 s) (lines_of s - 1) (omega (arith, length-slice_split (λ x. eqb x 10) s)) ∙ join_with_byte-slice_split 10 s
