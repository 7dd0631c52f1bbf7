-- Laws of the numbers and bytes that a field spells. Assumes nothing.
use mathlib.Core.Path.{◌≡◌, refl, sym, ap, ◌∙◌}
use mathlib.Core.Bool.{Bool, true, false}
use mathlib.Core.List.{List, [], ◌∷◌, ◌++◌, append_assoc, append-nil}
use Prim.Native.Nat.{ℕ, zero, suc, ◌+◌, ◌-◌, ◌*◌, ◌/◌, ◌%◌, ◌≤◌, ◌<◌}
use native.Mathlib.Nat.{not-suc-le-zero, le_of_suc-le-suc, add-zero, zero-add, add-suc, suc-add}
use native.Mathlib.Numerals.{add-one}
use native.Mathlib.Omega.{arith}
use lib.Dec.{leb}
use lib.ListN.{length, take, drop, get_or, set, length-take, drop_of_length-le, take-append-drop}
use lib.Seq.{take-take, take-suc-set, take-set-le, length-take-le, take_all, drop_at, drop-cons}
use borrow.Author.Tests.{lt-ltb, le-ltb, leb-true, ne_eqb}
use Rattle.io.specs.Digits.{last_digits, hex_digit_ascii}
use Rattle.octets.specs.Octets.{pick}
use Rattle.std.specs.Option.{option_and_then}
use Rattle.std.specs.Prelude.{Option, Some, None, IfSome}
use Rattle.lists.specs.declared.text.Spelled.{Spelled}
use Rattle.lists.specs.Text.{slice, with_digit, number_from, number_of, hexadecimal, spelling, Adds}

-- ---- numbers

pub glyph_low : (b : ℕ) → 48 ≤ b → b < 58 → hex_digit_ascii (b - 48) ≡ b
glyph_low b h l = let e : b - 48 < 10 = omega arith in simp (lt-ltb (b - 48) 10 e) (omega arith)

pub glyph_high : (b : ℕ) → 97 ≤ b → hex_digit_ascii (b - 97 + 10) ≡ b
glyph_high b h = let e : 10 ≤ b - 97 + 10 = omega arith in simp (le-ltb (b - 97 + 10) 10 e) (omega arith)

one_digit : (v b : ℕ) → 48 ≤ b → b < 58 → ((v * 10 + (b - 48)) / 10 ≡ v) × (hex_digit_ascii ((v * 10 + (b - 48)) % 10) ≡ b)
one_digit v b h l =
    let e : (v * 10 + (b - 48)) % 10 ≡ b - 48 = omega arith in
    (omega arith, rw e (glyph_low b h l))

abbrev Extends : ℕ → ℕ → ℕ → Type 0
Extends n b r = (r / 10 ≡ n) × (hex_digit_ascii (r % 10) ≡ b)

by_tests : (n b r : ℕ) (p q m : Bool) → leb 48 b ≡ p → leb b 57 ≡ q
    → pick p (pick q (pick m (Some (n * 10 + (b - 48))) None) None) None ≡ Some r → Extends n b r
by_tests n b r true true true u v e =
    let o = one_digit n b (leb-true 48 b u) (omega (arith, leb-true b 57 v)) in
    let f : r ≡ n * 10 + (b - 48) = cc in
    rw f o
by_tests n b r true true false u v e = cc
by_tests n b r true false m u v e = cc
by_tests n b r false q m u v e = cc

extended : (n b r : ℕ) → with_digit n b ≡ Some r → Extends n b r
unfolding with_digit
extended n b r e = by_tests n b r (leb 48 b) (leb b 57) (leb n 99999999) refl refl e

-- where the first byte is a digit, what follows spells the rest
digits_after : (o : Option ℕ) (s : List ℕ) (r : ℕ) → option_and_then (λ m. number_from m s) o ≡ Some r → (m : ℕ) × (o ≡ Some m) × (number_from m s ≡ Some r)
digits_after None s r e = cc
digits_after (Some m) s r e = (m, refl, e)

digits_from : (n : ℕ) (s : List ℕ) (k r : ℕ) → number_from n s ≡ Some r → last_digits 10 (k + length s) r ≡ last_digits 10 k n ++ s
unfolding number_from
digits_from n [] k r e = let f : r ≡ n = cc in rw (add-zero, f) (sym (append-nil (last_digits 10 k n)))
digits_from n (b ∷ s) k r e =
    let d = digits_after (with_digit n b) s r e in
    let x = extended n b d.0 d.1 in
    rw add-suc ((rw suc-add at (digits_from d.0 s (suc k) r d.2)) ∙ rw (x.0, x.1, append_assoc))

pub some_digits : (s : List ℕ) → (length s ≡ 0 → ⊥) → number_of s ≡ number_from 0 s
some_digits s h = rw (ne_eqb (length s) 0 h)

-- the digits of a number are the field that spells it
pub good_number : (s : List ℕ) (r : ℕ) → number_of s ≡ Some r → s ≡ last_digits 10 (length s) r
good_number [] r e = cc
good_number (b ∷ s) r e = sym (rw zero-add at (digits_from 0 (b ∷ s) 0 r (sym (some_digits (b ∷ s) (λ h. omega arith)) ∙ e)))

-- a turn of `decimal`: a byte that is no digit, a digit, and the end
module _ (n : ℕ) (s : List ℕ) (i : ℕ) where
  number_next : i < length s → number_from n (drop i s) ≡ option_and_then (λ m. number_from m (drop (i + 1) s)) (with_digit n (get_or s i 0))
  unfolding number_from
  number_next h = rw (add-one, drop-cons s i 0)

  pub number_stops : i < length s → with_digit n (get_or s i 0) ≡ None → number_from n (drop i s) ≡ None
  number_stops h e = rw (number_next h, e)

  pub number_goes_on : (m : ℕ) → i < length s → with_digit n (get_or s i 0) ≡ Some m → number_from n (drop i s) ≡ number_from m (drop (i + 1) s)
  number_goes_on m h e = rw (number_next h, e)

  pub number_ends : length s ≤ i → number_from n (drop i s) ≡ Some n
  unfolding number_from
  number_ends h = rw (drop_of_length-le s h)

-- ---- bytes

cut : (a b c : ℕ) (l : List ℕ) → a ≤ b → b ≤ c → slice a c l ≡ slice a b l ++ slice b c l
unfolding slice
cut zero b c l h k = sym (take-append-drop b (take c l)) ∙ rw (take-take b c l k)
cut (suc a) zero c l h k = absurd (not-suc-le-zero h)
cut (suc a) (suc b) zero l h k = absurd (not-suc-le-zero k)
cut (suc a) (suc b) (suc c) [] h k = refl
cut (suc a) (suc b) (suc c) (x ∷ l) h k = cut a b c l (le_of_suc-le-suc h) (le_of_suc-le-suc k)

cut_none : (a : ℕ) (l : List ℕ) → slice a a l ≡ []
unfolding slice
cut_none a l = drop_of_length-le (take a l) {i = a} (simp length-take (omega arith))

-- the byte that a store has laid at the end
cut_one : (a v : ℕ) (l : List ℕ) → a < length l → slice a (a + 1) (set l a v) ≡ v ∷ []
unfolding slice
cut_one a v l h = rw (add-one, take-suc-set l a v h) (drop_at (take a l) (v ∷ []) a (length-take-le a l (omega arith)))

hexadecimal-append : (s t : List ℕ) → hexadecimal (s ++ t) ≡ hexadecimal s ++ hexadecimal t
unfolding hexadecimal
hexadecimal-append [] t = refl
hexadecimal-append (b ∷ s) t = ap (λ (l : List ℕ). hex_digit_ascii (b / 16) ∷ hex_digit_ascii (b % 16) ∷ l) (hexadecimal-append s t)

pub adds_none : (s : Spelled) → s.length ≤ 256 → Adds hexadecimal s s []
unfolding hexadecimal
adds_none s h = record { kept = refl; more = omega arith; most = h; spelt = rw cut_none }

pub adds_more : {s m r : Spelled} {a b : List ℕ} → Adds hexadecimal s m a → Adds hexadecimal m r b → Adds hexadecimal s r (a ++ b)
unfolding slice
adds_more {s} {m} {r} {a} {b} p q = record {
  kept =
      sym (take-take s.length m.length r.bytes p.more)
      ∙ ap (take s.length) q.kept
      ∙ take-take s.length m.length m.bytes p.more
      ∙ p.kept;
  more = omega (arith, p.more, q.more);
  most = q.most;
  spelt = rw (p.spelt, q.spelt, cut s.length m.length r.length r.bytes p.more q.more, hexadecimal-append, q.kept);
}

-- one byte more, from its digits
pub adds_byte : (s : Spelled) (h l : ℕ) {high low : ℕ} → l < 16 → hex_digit_ascii h ≡ high → hex_digit_ascii l ≡ low → s.length < length s.bytes → s.length < 256
    → Adds hexadecimal s (record { bytes = set s.bytes s.length (h * 16 + l); length = s.length + 1 }) (high ∷ low ∷ [])
unfolding hexadecimal
adds_byte s h l small p q room least =
    let d : (h * 16 + l) / 16 ≡ h = omega arith in
    let m : (h * 16 + l) % 16 ≡ l = omega arith in
    record {
      kept = take-set-le s.length s.bytes s.length (h * 16 + l) (omega arith);
      more = omega arith;
      most = omega arith;
      spelt = rw (cut_one s.length (h * 16 + l) s.bytes room, d, m, p, q);
    }

two_off : (l : List ℕ) → 2 ≤ length l → l ≡ get_or l 0 0 ∷ get_or l 1 0 ∷ take (length l - 2) (drop 2 l)
two_off [] h = absurd (not-suc-le-zero h)
two_off (x ∷ []) h = absurd (omega arith)
two_off (x ∷ y ∷ l) h = ap (λ (t : List ℕ). x ∷ y ∷ t) (sym (take_all (suc (suc (length l)) - 2) l (omega arith)))

-- some of a field is spelled, and this is left of it
abbrev pub SoFar : Spelled → Spelled → List ℕ → List ℕ → Type 0
SoFar s m field left = (done : List ℕ) × (field ≡ done ++ left) × Adds hexadecimal s m done

pub two_more : (s m r : Spelled) (field left : List ℕ) → 2 ≤ length left → SoFar s m field left
    → Adds hexadecimal m r (get_or left 0 0 ∷ get_or left 1 0 ∷ []) → SoFar s r field (take (length left - 2) (drop 2 left))
two_more s m r field left h p q = (
  p.0 ++ (get_or left 0 0 ∷ get_or left 1 0 ∷ []),
  p.1 ∙ ap (λ (l : List ℕ). p.0 ++ l) (two_off left h) ∙ sym (append_assoc p.0 (get_or left 0 0 ∷ get_or left 1 0 ∷ []) _),
  adds_more p.2 q,
)

spelled_out : (x field : List ℕ) → 0 < length field → field ≡ hexadecimal x → field ≡ spelling x
unfolding hexadecimal spelling
spelled_out [] field h e = absurd (not-suc-le-zero (rw e at h))
spelled_out (b ∷ x) field h e = e

pub adds_field : {s r : Spelled} {field : List ℕ} → 0 < length field → Adds hexadecimal s r field → Adds spelling s r field
adds_field {s} {r} {field} h p = record {
  kept = p.kept;
  more = p.more;
  most = p.most;
  spelt = spelled_out (slice s.length r.length r.bytes) field h p.spelt;
}

pub adds_digits : (s : Spelled) (o : Option Spelled) (field : List ℕ) → 0 < length field → IfSome o (λ r. Adds hexadecimal s r field) → IfSome o (λ r. Adds spelling s r field)
adds_digits s None field h p = p
adds_digits s (Some r) field h p = adds_field h p

pub adds_nothing : (s : Spelled) (field : List ℕ) → field ≡ 45 ∷ [] → s.length ≤ 256 → Adds spelling s s field
unfolding spelling
adds_nothing s field f h = record { kept = refl; more = omega arith; most = h; spelt = f ∙ rw cut_none }
