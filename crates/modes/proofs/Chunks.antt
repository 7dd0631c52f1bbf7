-- A text that is cut into blocks of sixteen bytes: block i of them is the definition's, and what is left is the text past them.
-- Assumes nothing.
use Rattle.std.proofs.Common.{◌≡◌, refl, ap, ◌∙◌, ℕ, zero, suc, ◌+◌, ◌*◌, ◌/◌, ◌<◌, List, [], length, get_or, take, drop, arith}
use Rattle.std.proofs.lemmas.List.{drop-drop}
use Rattle.std.specs.Simd.{first_chunks}
use Rattle.octets.specs.Octets.{block_at}

pub chunk_at : (s : List ℕ) (n i : ℕ) → i < n → get_or (first_chunks 16 n s) i [] ≡ block_at s i
chunk_at s zero i h = absurd (omega arith)
chunk_at s (suc n) zero h = refl
chunk_at s (suc n) (suc i) h =
    let e : 16 + 16 * i ≡ 16 * suc i = omega arith in
    chunk_at (drop 16 s) n i (omega arith) ∙ ap (take 16) (drop-drop (16 * i) 16 s ∙ ap (λ (k : ℕ). drop k s) e)

pub rest_at : (s : List ℕ) {n : ℕ} → n ≡ length s / 16 → drop (length s / 16 * 16) s ≡ drop (16 * n) s
rest_at s {n} e = let f : length s / 16 * 16 ≡ 16 * n = omega arith in ap (λ (k : ℕ). drop k s) f
