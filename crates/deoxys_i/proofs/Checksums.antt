-- The checksum as one fold over the full blocks, and the padded partial one after it.
-- Assumes nothing.
use Rattle.std.proofs.Common.{◌≡◌, refl, sym, ◌∙◌, ℕ, zero, suc, ◌+◌, ◌*◌, ◌/◌, ◌<◌, List, [], ◌∷◌, length, drop, arith, zero-add}
use Rattle.std.proofs.lemmas.List.{drop-drop, nil_from_length}
use Rattle.std.specs.List.{fold}
use Rattle.std.specs.Simd.{first_chunks}
use Rattle.octets.specs.Octets.{◌⊕◌, block_at, padded}
use Rattle.deoxys_i.specs.DeoxysI.{pad_in, checksum_of, summed}

abbrev pub blocks_summed : List ℕ → List ℕ → List ℕ
blocks_summed from s = fold (λ sum block. sum ⊕ block) from (first_chunks 16 (length s / 16) s)

folded : (s sum : List ℕ) (n i : ℕ)
    → checksum_of s sum n i ≡ pad_in (fold (λ sum block. sum ⊕ block) sum (first_chunks 16 n (drop (16 * i) s))) (drop (16 * (n + i)) s)
unfolding checksum_of
folded s sum zero i = simp zero-add
folded s sum (suc n) i =
    let next : 16 * i + 16 ≡ 16 * (i + 1) = omega arith in
    let last : n + (i + 1) ≡ suc n + i = omega arith in
    folded s (sum ⊕ block_at s i) n (i + 1) ∙ rw (drop-drop 16 (16 * i) s, next, last)

pad_in_some : (sum s : List ℕ) → 0 < length s → pad_in sum s ≡ sum ⊕ padded s
pad_in_some sum [] h = absurd (omega arith)
pad_in_some sum (x ∷ s) h = refl

module _ (from s rest : List ℕ) (r : rest ≡ drop (length s / 16 * 16) s) where
  split : summed from s ≡ pad_in (blocks_summed from s) rest
  split =
      let e : 16 * (length s / 16 + 0) ≡ length s / 16 * 16 = omega arith in
      rw (r, ← e) (folded s from (length s / 16) 0)

  pub sum_none : length rest ≡ 0 → blocks_summed from s ≡ summed from s
  sum_none h = rw (nil_from_length rest h) at (sym split)

  pub sum_part : 0 < length rest → blocks_summed from s ⊕ padded rest ≡ summed from s
  sum_part h = sym (split ∙ pad_in_some _ rest h)
