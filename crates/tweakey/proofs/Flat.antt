-- Blocks end to end in 272 bytes: one more laid in, and one read back.
-- Assumes nothing.
use mathlib.Core.Path.{◌≡◌, refl, sym, ap, ◌∙◌}
use mathlib.Core.Logic.{⊎_elim}
use mathlib.Core.List.{List, ◌++◌, append_assoc}
use Prim.Native.Nat.{ℕ, zero, suc, ◌+◌, ◌-◌, ◌*◌, ◌≤◌, ◌<◌}
use native.Mathlib.Nat.{not-suc-le-zero, le_of_suc-le-suc, eq-or-lt_of_le}
use native.Mathlib.Numerals.{add-one}
use native.Mathlib.Omega.{arith}
use lib.ListN.{length, take, drop, replicate, length-append, length-replicate}
use lib.Seq.{take_at, drop_at, drop-append-add}
use Rattle.octets.proofs.Parts.{drop_zeros}
use Rattle.tweakey.specs.Tweakey.{joined, flat}

pub flat-none : (f : ℕ → List ℕ) → replicate 272 0 ≡ flat f 0
unfolding flat
flat-none f = refl

module _ (f : ℕ → List ℕ) (size : (i : ℕ) → i < 17 → length (f i) ≡ 16) where
  joined_length : (n : ℕ) → n ≤ 17 → length (joined f n) ≡ 16 * n
  joined_length zero h = refl
  joined_length (suc n) h =
      let a : length (joined f n) ≡ 16 * n = joined_length n (omega arith) in
      let b : length (f n) ≡ 16 = size n (omega arith) in
      length-append (joined f n) (f n) ∙ omega arith

  -- with anything after them
  joined_at : (n : ℕ) (rest : List ℕ) (i : ℕ) → i < n → n ≤ 17 → take 16 (drop (16 * i) (joined f n ++ rest)) ≡ f i
  joined_at zero rest i h l = absurd (not-suc-le-zero h)
  joined_at (suc n) rest i h l =
      rw (append_assoc (joined f n) (f n) rest)
      (⊎_elim
      (λ e. rw (e, drop_at (joined f n) (f n ++ rest) (16 * n) (joined_length n (omega arith))) (take_at (f n) rest 16 (size n (omega arith))))
      (λ b. joined_at n (f n ++ rest) i b (omega arith)) (eq-or-lt_of_le (le_of_suc-le-suc h)))

  pub flat_at : (n i : ℕ) → i < n → n ≤ 17 → take 16 (drop (16 * i) (flat f n)) ≡ f i
  unfolding flat
  flat_at n i h l = joined_at n (replicate (272 - 16 * n) 0) i h l

  pub flat-length : (n : ℕ) → n ≤ 17 → length (flat f n) ≡ 272
  unfolding flat
  flat-length n l =
      let a : length (joined f n) ≡ 16 * n = joined_length n l in
      simp (length-append, length-replicate) (omega arith)

  more : (n : ℕ) → n < 17 → take (16 * n) (flat f n) ++ (f n ++ drop (16 * n + 16) (flat f n)) ≡ flat f (n + 1)
  unfolding flat
  more n l =
      let a : length (joined f n) ≡ 16 * n = joined_length n (omega arith) in
      let e : 272 - 16 * n - 16 ≡ 272 - 16 * (n + 1) = omega arith in
      let d : drop (16 * n + 16) (joined f n ++ replicate (272 - 16 * n) 0) ≡ replicate (272 - 16 * (n + 1)) 0 =
      rw (← a) (drop-append-add (joined f n) _ 16) ∙ drop_zeros 16 (272 - 16 * n) 0 ∙ ap (λ (m : ℕ). replicate m 0) e in
      rw (take_at (joined f n) (replicate (272 - 16 * n) 0) (16 * n) a, d, add-one) (sym (append_assoc (joined f n) (f n) _))

  -- a loop's turn: block n is laid in
  pub flat_turn : (n : ℕ) (bytes block : List ℕ) → n < 17 → bytes ≡ flat f n → block ≡ f n
      → take (16 * n) bytes ++ (block ++ drop (16 * n + 16) bytes) ≡ flat f (n + 1)
  flat_turn n bytes block l e b = rw (e, b) (more n l)
