-- Bytes laid one after another are laid as one text; and a field is its head and then its bytes.
-- Assumes nothing.
use mathlib.Core.Path.{◌≡◌, refl, sym, ap, ◌∙◌}
use mathlib.Core.List.{List, [], ◌∷◌, ◌++◌, append_assoc}
use Prim.Native.Nat.{ℕ, ◌+◌, ◌/◌, ◌%◌, ◌^◌, ◌≤◌, ◌<◌}
use native.Mathlib.Omega.{arith}
use lib.ListN.{length, take, drop, length-append}
use lib.Seq.{drop-drop}
use Rattle.octets.specs.Octets.{big_endian}
use Rattle.octets.proofs.Parts.{put_take, put_drop}
use Rattle.fields.specs.Fields.{field}
use Rattle.fields.specs.Answers.{laid_at}

module _ (d a b : List ℕ) (at : ℕ) (fits : at + length a ≤ length d) where
  kept : drop (at + length a + length b) (laid_at at a d) ≡ drop (at + length (a ++ b)) d
  kept =
      let e : at + length a + length b ≡ at + length (a ++ b) = omega (arith, length-append a b) in
      sym (drop-drop (length b) (at + length a) (laid_at at a d))
      ∙ ap (λ (l : List ℕ). drop (length b) l) (put_drop d a at (length a) fits refl)
      ∙ drop-drop (length b) (at + length a) d
      ∙ ap (λ (n : ℕ). drop n d) e

  pub laid_next : laid_at (at + length a) b (laid_at at a d) ≡ laid_at at (a ++ b) d
  laid_next =
      rw (
        put_take d a at (length a) fits refl,
        kept,
        append_assoc (take at d) a (b ++ drop (at + length (a ++ b)) d),
        append_assoc a b
            (drop (at + length (a ++ b)) d),
      )

pub field-length : (tag : ℕ) (body : List ℕ) → length (field tag body) ≡ 3 + length body
unfolding field big_endian
field-length tag body = omega arith

pub field_is : (tag high low : ℕ) (body : List ℕ) → length body < 65536 → high ≡ length body / 256 → low ≡ length body % 256
    → (tag ∷ high ∷ low ∷ []) ++ body ≡ field tag body
unfolding field big_endian
field_is tag high low body h e f =
    let u : length body / 256 ^ 1 % 256 ≡ high = omega arith in
    let v : length body / 256 ^ 0 % 256 ≡ low = omega arith in
    rw (u, v)

-- a head laid, and then the bytes
pub laid_field : (d d₁ d₂ body : List ℕ) (at next tag high low : ℕ) → at + 3 ≤ length d → length body < 65536 → next ≡ at + 3
    → d₁ ≡ laid_at at (tag ∷ high ∷ low ∷ []) d → d₂ ≡ laid_at next body d₁ → high ≡ length body / 256 → low ≡ length body % 256
    → d₂ ≡ laid_at at (field tag body) d
laid_field d d₁ d₂ body at next tag high low fits h n p q e f =
    q ∙ rw (p, n) (laid_next d (tag ∷ high ∷ low ∷ []) body at fits) ∙ ap (λ (l : List ℕ). laid_at at l d) (field_is tag high low body h e f)
