-- What is shown tells the note: two notes that are shown alike, up to the quote that ends them, are the same, and so is what follows them.
-- Assumes nothing.
use mathlib.Core.Path.{◌≡◌, refl, sym, ap, ◌∙◌, subst}
use mathlib.Core.Bool.{not}
use mathlib.Core.List.{List, [], ◌∷◌, ◌++◌, append_assoc}
use Prim.Native.Nat.{ℕ, suc, ◌+◌, ◌-◌, ◌*◌, ◌<◌}
use lib.Dec.{T, eqb, leb}
use lib.ListN.{length, drop, get_or}
use lib.Seq.{drop_at}
use Rattle.octets.specs.Octets.{Bytes, pick}
use Rattle.octets.proofs.Tables.{below, agreed}
use Rattle.quoted.specs.Quoted.{digit, spelling, quoted}

-- a reader of the byte that is shown first, by at most four bytes, and of how many show it
number : ℕ → ℕ
number c = pick (leb c 0x39) (c - 0x30) (c - 0x57)

shown : List ℕ → ℕ
shown s =
    pick (eqb (get_or s 0 0) 0x5c) (pick (eqb (get_or s 1 0) 0x78) (number (get_or s 2 0) * 16 + number (get_or s 3 0)) (get_or s 1 0))
    (get_or s 0 0)

width : List ℕ → ℕ
width s = pick (eqb (get_or s 0 0) 0x5c) (pick (eqb (get_or s 1 0) 0x78) 4 2) 1

-- every byte's spelling, whatever follows it, by one test each
module _ (rest : List ℕ) where
  byte_back : (x : ℕ) → x < 256 → shown (spelling x ++ rest) ≡ x
  unfolding number shown spelling digit
  byte_back = agreed (λ x. shown (spelling x ++ rest)) (λ x. x) 256 tt

  width_back : (x : ℕ) → x < 256 → width (spelling x ++ rest) ≡ length (spelling x)
  unfolding width spelling digit
  width_back = agreed (λ x. width (spelling x ++ rest)) (λ x. length (spelling x)) 256 tt

  no_quote : (x : ℕ) → x < 256 → T (not (eqb (get_or (spelling x ++ rest) 0 0) 0x22))
  unfolding spelling digit
  no_quote = below (λ x. not (eqb (get_or (spelling x ++ rest) 0 0) 0x22)) 256 tt

  rest_back : (x : ℕ) → x < 256 → drop (width (spelling x ++ rest)) (spelling x ++ rest) ≡ rest
  rest_back x h = drop_at (spelling x) rest (width (spelling x ++ rest)) (sym (width_back x h))

next : (x : ℕ) (note : List ℕ) → Bytes (x ∷ note) → Bytes note
next x note h = record { at = λ i. h.at (suc i) }

-- the quote that ends a note is not the start of a byte's spelling
not_ended : (s rest : List ℕ) (x : ℕ) → x < 256 → 0x22 ∷ s ≡ spelling x ++ rest → ⊥
not_ended s rest x h e = subst (λ (l : List ℕ). T (not (eqb (get_or l 0 0) 0x22))) (sym e) (no_quote rest x h)

pub read_back : (a b s t : List ℕ) → Bytes a → Bytes b → quoted a ++ (0x22 ∷ s) ≡ quoted b ++ (0x22 ∷ t) → (a ≡ b) × (s ≡ t)
unfolding quoted
read_back [] [] s t h k e = (refl, ap (λ (l : List ℕ). drop 1 l) e)
read_back [] (y ∷ b) s t h k e = absurd (not_ended s _ y (k.at 0) (e ∙ append_assoc (spelling y) (quoted b) (0x22 ∷ t)))
read_back (x ∷ a) [] s t h k e = absurd (not_ended t _ x (h.at 0) (sym e ∙ append_assoc (spelling x) (quoted a) (0x22 ∷ s)))
read_back (x ∷ a) (y ∷ b) s t h k e =
    let f : spelling x ++ (quoted a ++ (0x22 ∷ s)) ≡ spelling y ++ (quoted b ++ (0x22 ∷ t)) =
    sym (append_assoc (spelling x) (quoted a) (0x22 ∷ s)) ∙ e ∙ append_assoc (spelling y) (quoted b) (0x22 ∷ t) in
    let first : x ≡ y = sym (byte_back _ x (h.at 0)) ∙ ap shown f ∙ byte_back _ y (k.at 0) in
    let others : quoted a ++ (0x22 ∷ s) ≡ quoted b ++ (0x22 ∷ t) =
    sym (rest_back _ x (h.at 0)) ∙ ap (λ (l : List ℕ). drop (width l) l) f ∙ rest_back _ y (k.at 0) in
    let again = read_back a b s t (next x a h) (next y b k) others in
    (rw (first, again.0), again.1)
