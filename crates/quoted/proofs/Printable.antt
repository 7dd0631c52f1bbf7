-- What is shown of a note is printable, whatever the note holds: no control byte, and none from 0x7f on.
-- Assumes nothing.
use mathlib.Core.Bool.{Bool, true, false}
use mathlib.Core.List.{List, [], ◌∷◌, ◌++◌}
use Prim.Native.Nat.{ℕ, zero, suc, ◌≤◌, ◌<◌}
use native.Mathlib.Nat.{le_of_suc-le-suc, not-suc-le-zero}
use lib.Dec.{T, leb, leb→le}
use lib.ListN.{length, get_or}
use Rattle.octets.specs.Octets.{Bytes, pick}
use Rattle.octets.proofs.Tables.{both_left, both_right, below}
use Rattle.quoted.specs.Quoted.{is_printable, digit, spelling, quoted}

-- every byte is one from the space to the tilde
pub record Printable (s : List ℕ) : Type 0 where
  pub at : (i : ℕ) → i < length s → (0x20 ≤ get_or s i 0) × (get_or s i 0 ≤ 0x7e)

-- the same as a test
abbrev all_printable : List ℕ → Bool
all_printable [] = true
all_printable (x ∷ s) = pick (is_printable x) (all_printable s) false

tested : (s : List ℕ) → T (all_printable s) → Printable s
tested s t = record { at = λ i h. by s t i h }
  where
    by : (s : List ℕ) → T (all_printable s) → (i : ℕ) → i < length s → (0x20 ≤ get_or s i 0) × (get_or s i 0 ≤ 0x7e)
    by [] t i h = absurd (not-suc-le-zero h)
    by (x ∷ s) t zero h =
        let p = both_left (is_printable x) (all_printable s) t in
        (leb→le 0x20 x (both_left (leb 0x20 x) (leb x 0x7e) p), leb→le x 0x7e (both_right (leb 0x20 x) (leb x 0x7e) p))
    by (x ∷ s) t (suc i) h = by s (both_right (is_printable x) (all_printable s) t) i (le_of_suc-le-suc h)

also : (b x y : Bool) → (T x → T y) → T (pick b x false) → T (pick b y false)
also true x y f t = f t
also false x y f t = t

joined : (s t : List ℕ) → T (all_printable s) → T (all_printable t) → T (all_printable (s ++ t))
joined [] t h k = k
joined (x ∷ s) t h k = also (is_printable x) (all_printable s) (all_printable (s ++ t)) (λ l. joined s t l k) h

-- every byte's spelling, by one test
each : (x : ℕ) → x < 256 → T (all_printable (spelling x))
unfolding spelling digit
each = below (λ x. all_printable (spelling x)) 256 tt

every : (note : List ℕ) → Bytes note → T (all_printable (quoted note))
unfolding quoted
every [] h = tt
every (x ∷ note) h = joined (spelling x) (quoted note) (each x (h.at 0)) (every note (record { at = λ i. h.at (suc i) }))

pub spelling_printable : (x : ℕ) → x < 256 → Printable (spelling x)
spelling_printable x h = tested (spelling x) (each x h)

pub quoted_printable : (note : List ℕ) → Bytes note → Printable (quoted note)
quoted_printable note h = tested (quoted note) (every note h)
