-- Digits read one by one, and the number kept from growing.
-- Assumes nothing.
use Rattle.std.specs.Prelude.{Some, None}
use Rattle.std.proofs.Common.{◌≡◌, refl, sym, ap, ◌∙◌, true, false, ◌⊎◌, inl, inr, List, [], ◌∷◌, ℕ, ◌+◌, ◌-◌, ◌*◌, ◌≤◌, ◌<◌, min, add-one, arith, length, get_or, drop, drop-cons}
use lib.ListN.{drop_of_length-le}
use borrow.Author.Tests.{le-leb, lt-leb, lt-ltb}
use Rattle.numerals.specs.Numbers.{is_digit, digits, value_after, number_of}

-- cutting before or after the other digits is the same
capped : (most n : ℕ) (text : List ℕ) → min (value_after (min n most) text) most ≡ min (value_after n text) most
unfolding value_after
capped most n [] = omega arith
capped most n (c ∷ text) =
    let e : min (min n most * 10 + (c - 48)) most ≡ min (n * 10 + (c - 48)) most = omega arith in
    sym (capped most (min n most * 10 + (c - 48)) text) ∙ ap (λ (k : ℕ). min (value_after k text) most) e ∙ capped most (n * 10 + (c - 48)) text

-- before digit i, what is left decides what the text is
pub record Reading (text : List ℕ) (value i : ℕ) : Type 0 where
  pub within : i ≤ length text
  pub small : value ≤ 1048577
  pub digits-left : digits (drop i text) ≡ digits text
  pub value_left : min (value_after value (drop i text)) 1048577 ≡ min (value_after 0 text) 1048577

module _ (text : List ℕ) (value i : ℕ) (r : Reading text value i) where
  module _ (h : i < length text) where
    next : drop i text ≡ get_or text i 0 ∷ drop (i + 1) text
    next = rw (add-one, drop-cons text i 0)

    pub reading_turn : 48 ≤ get_or text i 0 → get_or text i 0 ≤ 57 → Reading text (min (value * 10 + (get_or text i 0 - 48)) 1048577) (i + 1)
    unfolding digits value_after
    reading_turn l u = record {
      within = omega arith;
      small = omega arith;
      digits-left = rw (next, le-leb _ _ l, le-leb _ _ u) at r.digits-left;
      value_left = capped 1048577 (value * 10 + (get_or text i 0 - 48)) (drop (i + 1) text) ∙ (rw next at r.value_left);
    }

    no_number : is_digit (get_or text i 0) ≡ false → None ≡ number_of text
    unfolding digits number_of
    no_number e =
        let d : false ≡ digits text = rw (next, e) at r.digits-left in
        rw (← d, lt-ltb 0 (length text) (omega arith))

    pub no_digit : (get_or text i 0 < 48) ⊎ (57 < get_or text i 0) → None ≡ number_of text
    no_digit (inl l) = no_number (rw (lt-leb _ _ l))
    no_digit (inr u) = no_number (rw (le-leb 48 (get_or text i 0) (omega arith), lt-leb _ _ u))

pub reading_end : (text : List ℕ) (value i : ℕ) → Reading text value i → 0 < length text → length text ≤ i → Some value ≡ number_of text
unfolding digits value_after number_of
reading_end text value i r some h =
    let v = rw (drop_of_length-le text h) at r.value_left in
    let e : value ≡ min (value_after 0 text) 1048577 = omega (arith, r.small) in
    let d : true ≡ digits text = rw (drop_of_length-le text h) at r.digits-left in
    rw (← d, ← e, lt-ltb 0 (length text) some)

pub no_bytes : (text : List ℕ) → length text ≤ 0 → None ≡ number_of text
unfolding number_of
no_bytes [] h = refl
no_bytes (c ∷ text) h = absurd (omega arith)
