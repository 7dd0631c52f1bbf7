-- The spelling of a byte case by case, and a note's laid byte by byte.
-- Assumes nothing.
use mathlib.Core.Path.{◌≡◌, sym, ◌∙◌}
use mathlib.Core.List.{List, [], ◌∷◌, ◌++◌, append_assoc, append-nil}
use Prim.Native.Nat.{ℕ, ◌+◌, ◌*◌, ◌/◌, ◌%◌, ◌≤◌, ◌<◌}
use Rattle.std.specs.Prelude.{◌≢◌}
use native.Mathlib.Numerals.{add-one}
use native.Mathlib.Omega.{arith}
use lib.ListN.{length, take, drop, get_or, drop_of_length-le}
use lib.Seq.{drop-cons}
use borrow.Author.Tests.{le-leb, lt-leb, ne_eqb}
use Rattle.quoted.specs.Quoted.{digit, spelling, quoted}

-- ---- a byte

pub low_digit : (n : ℕ) → n < 10 → 0x30 + n ≡ digit n
unfolding digit
low_digit n h = let k : n ≤ 9 = omega arith in rw (le-leb n 9 k)

pub high_digit : (n : ℕ) → 9 < n → 0x57 + n ≡ digit n
unfolding digit
high_digit n h = rw (lt-leb n 9 h)

module _ (x : ℕ) where
  pub below_printable : x < 0x20 → spelling x ≡ 0x5c ∷ 0x78 ∷ digit (x / 16) ∷ digit (x % 16) ∷ []
  unfolding spelling
  below_printable h = rw (lt-leb 0x20 x h)

  pub above_printable : 0x7e < x → spelling x ≡ 0x5c ∷ 0x78 ∷ digit (x / 16) ∷ digit (x % 16) ∷ []
  unfolding spelling
  above_printable h = let k : 0x20 ≤ x = omega arith in rw (le-leb 0x20 x k, lt-leb x 0x7e h)

  pub quote : x ≡ 0x22 → spelling x ≡ 0x5c ∷ x ∷ []
  unfolding spelling
  quote e = rw e

  pub backslash : x ≡ 0x5c → spelling x ≡ 0x5c ∷ x ∷ []
  unfolding spelling
  backslash e = rw e

  pub itself : 0x20 ≤ x → x ≤ 0x7e → x ≢ 0x22 → x ≢ 0x5c → spelling x ≡ x ∷ []
  unfolding spelling
  itself l u q b = rw (le-leb 0x20 x l, le-leb x 0x7e u, ne_eqb x 0x22 q, ne_eqb x 0x5c b)

pub ruleset spellings = (below_printable, above_printable, quote, backslash, itself)

-- ---- a note

-- before byte i: what lies in front of the place, and the spelling of what is left, are the whole
pub record Laid (note d : List ℕ) (at i : ℕ) : Type 0 where
  pub within : i ≤ length note
  pub short : at ≤ 4 * i
  pub text : take at d ++ quoted (drop i note) ≡ quoted note

module _ (note d : List ℕ) where
  module _ (at i : ℕ) (l : Laid note d at i) where
    pub laid_turn : i < length note → (d' : List ℕ) (at' : ℕ) → at' ≤ at + 4 → take at' d' ≡ take at d ++ spelling (get_or note i 0)
        → Laid note d' at' (i + 1)
    unfolding quoted
    laid_turn h d' at' k e =
        let next : drop i note ≡ get_or note i 0 ∷ drop (i + 1) note = rw (add-one, drop-cons note i 0) in
        record {
          within = omega arith;
          short = omega (arith, l.short);
          text = rw (e, append_assoc (take at d) (spelling (get_or note i 0)) (quoted (drop (i + 1) note))) (rw next at l.text);
        }

    pub laid_end : length note ≤ i → take at d ≡ quoted note
    unfolding quoted
    laid_end h = sym (append-nil (take at d)) ∙ (rw (drop_of_length-le note h) at l.text)
