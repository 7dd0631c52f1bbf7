-- The risk tables of a sealing and an opening: how many rows they have, and which stands where.
-- Assumes nothing.
use mathlib.Core.Path.{◌≡◌, refl, sym, ap, ◌∙◌}
use mathlib.Core.Bool.{Bool, true, false}
use mathlib.Core.List.{List, [], ◌∷◌, ◌++◌}
use Prim.Native.Nat.{ℕ, zero, suc, ◌+◌, ◌-◌, ◌*◌, ◌≤◌, ◌<◌}
use native.Mathlib.Nat.{not-suc-le-zero, sub-zero}
use Rattle.std.specs.Prelude.{Some, None, slice_get, ◌≢◌}
use Rattle.std.proofs.lemmas.Option.{slice_get_past}
use native.Mathlib.Omega.{arith}
use lib.Dec.{eqb}
use lib.ListN.{length, length-append}
use borrow.Author.Tests.{eq-eqb, ne_eqb, le-leb, lt-leb, eqb-true}
use Rattle.octets.specs.Octets.{pick, blocks_of}
use Rattle.suites.specs.Suites.{is_deoxys_i, key_length, nonce_length}
use Rattle.suites.proofs.Refusals.{Good, good}
use Rattle.risk.specs.declared.Kind.{Kind}
use Rattle.risk.specs.declared.Kind.TheVariants.{Data, Message, Keystream}
use Rattle.risk.specs.declared.Direction.{Direction}
use Rattle.risk.specs.declared.Direction.TheVariants.{Sealing, Opening}
use Rattle.risk.specs.declared.Label.{Label}
use Rattle.risk.specs.Labels.{
  block_label,
  block_labels,
  text_labels,
  tag_label,
  keystream_labels,
  labels,
  opening_labels,
  refused,
  risk_table,
  opening_table,
  labels_of,
  table_of,
}

-- ---- the blocks of one text

module _ (kind : Kind) (bytes : ℕ) where
  count : (n i : ℕ) → length (block_labels kind bytes n i) ≡ n
  unfolding block_labels
  count zero i = refl
  count (suc n) i = ap suc (count n (i + 1))

  pub text_count : length (text_labels kind bytes) ≡ blocks_of bytes
  text_count = count (blocks_of bytes) 0

  place : (n i j : ℕ) → j < n → slice_get (block_labels kind bytes n i) j ≡ Some (block_label kind bytes (i + j))
  unfolding block_labels
  place zero i j h = absurd (not-suc-le-zero h)
  place (suc n) i zero h = let e : i ≡ i + 0 = omega arith in ap (λ (k : ℕ). Some (block_label kind bytes k)) e
  place (suc n) i (suc j) h =
      let e : i + 1 + j ≡ i + suc j = omega arith in
      place n (i + 1) j (omega arith) ∙ ap (λ (k : ℕ). Some (block_label kind bytes k)) e

  pub text_place : (j : ℕ) → j < blocks_of bytes → slice_get (text_labels kind bytes) j ≡ Some (block_label kind bytes j)
  text_place j h = let e : 0 + j ≡ j = omega arith in place (blocks_of bytes) 0 j h ∙ ap (λ (k : ℕ). Some (block_label kind bytes k)) e

-- ---- a list after another

after : (p q : List Label) (i : ℕ) → length p ≤ i → slice_get (p ++ q) i ≡ slice_get q (i - length p)
after [] q i h = rw sub-zero
after (x ∷ p) q zero h = absurd (not-suc-le-zero h)
after (x ∷ p) q (suc i) h = let e : suc i - suc (length p) ≡ i - length p = omega arith in after p q i (omega arith) ∙ ap (slice_get q) (sym e)

before : (p q : List Label) (i : ℕ) → i < length p → slice_get (p ++ q) i ≡ slice_get p i
before [] q i h = absurd (not-suc-le-zero h)
before (x ∷ p) q zero h = refl
before (x ∷ p) q (suc i) h = before p q i (omega arith)

module _ (kind : Kind) (bytes : ℕ) (q : List Label) (i : ℕ) where
  pub in_text : i < blocks_of bytes → slice_get (text_labels kind bytes ++ q) i ≡ Some (block_label kind bytes i)
  in_text h = before (text_labels kind bytes) q i (rw (text_count kind bytes) h) ∙ text_place kind bytes i h

  pub after_text : (n : ℕ) → n ≡ blocks_of bytes → n ≤ i → slice_get (text_labels kind bytes ++ q) i ≡ slice_get q (i - n)
  after_text n e h =
      let c : length (text_labels kind bytes) ≡ n = text_count kind bytes ∙ sym e in
      rw c at (after (text_labels kind bytes) q i (rw c h))

-- ---- the keystream

module _ (suite bytes : ℕ) where
  pub keystream_none : suite ≤ 2 → 0 ≡ length (keystream_labels suite bytes)
  keystream_none s = simp (le-leb _ _ s)

  pub keystream_all : 2 < suite → blocks_of bytes ≡ length (keystream_labels suite bytes)
  keystream_all s = simp (lt-leb _ _ s, text_count)

keystream_place : (b : Bool) (bytes j : ℕ) → j < length (pick b [] (text_labels Keystream bytes))
    → slice_get (pick b [] (text_labels Keystream bytes)) j ≡ Some (block_label Keystream bytes j)
keystream_place true bytes j h = absurd (not-suc-le-zero h)
keystream_place false bytes j h = text_place Keystream bytes j (rw (text_count Keystream bytes) at h)

keystream_most : (b : Bool) (bytes : ℕ) → length (pick b [] (text_labels Keystream bytes)) ≤ blocks_of bytes
keystream_most true bytes = omega arith
keystream_most false bytes = rw (text_count Keystream bytes) (omega arith)

-- ---- how many rows

module _ (suite ad message : ℕ) where
  labels_count : length (labels suite ad message) ≡ blocks_of ad + (blocks_of message + suc (length (keystream_labels suite message)))
  unfolding labels
  labels_count = simp (length-append, text_count)

  opening_labels_count : length (opening_labels suite ad message) ≡ blocks_of ad + (length (keystream_labels suite message) + (blocks_of message + 1))
  unfolding opening_labels
  opening_labels_count = simp (length-append, text_count)

-- ---- what follows the data, which is the table of a text without data

module _ (suite message j : ℕ) where
  abbrev keystream : List Label
  keystream = keystream_labels suite message

  pub sealed_message : j < blocks_of message → slice_get (labels suite 0 message) j ≡ Some (block_label Message message j)
  unfolding labels block_labels
  sealed_message l = in_text Message message _ j l

  module _ (h : j < length (labels suite 0 message)) (m : ℕ) (is_m : m ≡ blocks_of message) (l : m ≤ j) where
    last : slice_get (labels suite 0 message) j ≡ slice_get (tag_label suite message ∷ keystream) (j - m)
    unfolding labels block_labels
    last = after_text Message message _ j m is_m l

    pub sealed_tag : j ≡ m → slice_get (labels suite 0 message) j ≡ Some (tag_label suite message)
    sealed_tag e = let z : j - m ≡ 0 = omega arith in last ∙ (rw z)

    pub sealed_keystream : j ≢ m → slice_get (labels suite 0 message) j ≡ Some (block_label Keystream message (j - m - 1))
    sealed_keystream n =
        let z : j - m ≡ suc (j - m - 1) = omega (arith, n) in
        let c = labels_count suite 0 message in
        last ∙ ap (slice_get (tag_label suite message ∷ keystream)) z ∙ keystream_place (is_deoxys_i suite) message _ (omega arith)

  module _ (k : ℕ) (is-k : k ≡ length keystream) where
    pub opened_keystream : j < k → slice_get (opening_labels suite 0 message) j ≡ Some (block_label Keystream message j)
    unfolding opening_labels block_labels
    opened_keystream l = before keystream _ j (omega arith) ∙ keystream_place (is_deoxys_i suite) message j (omega arith)

    module _ (l : k ≤ j) where
      then : slice_get (opening_labels suite 0 message) j ≡ slice_get (text_labels Message message ++ (tag_label suite message ∷ [])) (j - k)
      unfolding opening_labels block_labels
      then = rw (← is-k) at (after keystream (text_labels Message message ++ (tag_label suite message ∷ [])) j (omega arith))

      pub opened_message : j - k < blocks_of message → slice_get (opening_labels suite 0 message) j ≡ Some (block_label Message message (j - k))
      opened_message n = then ∙ in_text Message message _ (j - k) n

      pub opened_tag : j < length (labels suite 0 message) → blocks_of message ≤ j - k
          → slice_get (opening_labels suite 0 message) j ≡ Some (tag_label suite message)
      opened_tag h n =
          let c = labels_count suite 0 message in
          let z : j - k - blocks_of message ≡ 0 = omega arith in
          then ∙ after_text Message message _ (j - k) _ refl n ∙ (rw z)

pub small : (suite message j : ℕ) → j < length (labels suite 0 message) → message ≤ 1048576 → j ≤ 1048576
small suite message j h l = omega (arith, labels_count suite 0 message, keystream_most (is_deoxys_i suite) message)

-- ---- the tables

nonempty : (b : Bool) (l : List Label) (i : ℕ) → i < length (pick b l []) → b ≡ true
nonempty true l i h = refl
nonempty false l i h = absurd (not-suc-le-zero h)

as_many : (b : Bool) (p q : List Label) → length p ≡ length q → length (pick b p []) ≡ length (pick b q [])
as_many true p q e = e
as_many false p q e = refl

module _ (suite ad message : ℕ) where
  pub table_none : (refused suite ad message ≡ 0 → ⊥) → 0 ≡ length (risk_table suite ad message)
  unfolding risk_table
  table_none h = simp (ne_eqb _ _ h)

  -- an opening has as many rows as a sealing
  pub tables_count : length (opening_table suite ad message) ≡ length (risk_table suite ad message)
  unfolding opening_table risk_table
  tables_count =
      as_many (eqb (refused suite ad message) 0) (opening_labels suite ad message) (labels suite ad message)
      (omega (arith, labels_count suite ad message, opening_labels_count suite ad message))

  module _ (h : refused suite ad message ≡ 0) where
    is_labels : risk_table suite ad message ≡ labels suite ad message
    unfolding risk_table
    is_labels = simp (eq-eqb _ _ h)

    is_opening_labels : opening_table suite ad message ≡ opening_labels suite ad message
    unfolding opening_table
    is_opening_labels = simp (eq-eqb _ _ h)

    pub table_count_i : suite ≤ 2 → blocks_of ad + blocks_of message + 1 ≡ length (risk_table suite ad message)
    table_count_i s =
        let k = keystream_none suite message s in
        let e = ap length is_labels ∙ labels_count suite ad message in
        omega arith

    pub table_count_ii : 2 < suite → blocks_of ad + 2 * blocks_of message + 1 ≡ length (risk_table suite ad message)
    table_count_ii s =
        let k = keystream_all suite message s in
        let e = ap length is_labels ∙ labels_count suite ad message in
        omega arith

  module _ (i : ℕ) (h : i < length (risk_table suite ad message)) where
    not_refused : refused suite ad message ≡ 0
    unfolding risk_table
    not_refused = eqb-true _ _ (nonempty _ _ i h)

    pub fits : Good suite (key_length suite) (nonce_length suite) ad message
    fits = good _ _ _ _ _ not_refused

-- ---- a row of either table

module _ (suite ad message : ℕ) where
  table_count : (d : Direction) → length (table_of d suite ad message) ≡ length (risk_table suite ad message)
  table_count Sealing = refl
  table_count Opening = tables_count suite ad message

  parts : (d : Direction) → refused suite ad message ≡ 0 → table_of d suite ad message ≡ text_labels Data ad ++ labels_of d suite 0 message
  unfolding labels opening_labels block_labels
  parts Sealing h = is_labels suite ad message h
  parts Opening h = is_opening_labels suite ad message h

  pub later_fits : (i a : ℕ) → i < length (risk_table suite ad message) → a ≡ blocks_of ad → a ≤ i
      → (message ≤ 1048576) × (i - a < length (labels suite 0 message))
  later_fits i a h is-a l =
      let e : length (risk_table suite ad message) ≡ blocks_of ad + length (labels suite 0 message) =
      rw (parts Sealing (not_refused suite ad message i h)) (simp (length-append, text_count)) in
      ((fits suite ad message i h).text_fits, omega arith)

module _ (d : Direction) (suite ad message i : ℕ) where
  pub row_none : length (risk_table suite ad message) ≤ i → slice_get (table_of d suite ad message) i ≡ None
  row_none h = slice_get_past (table_of d suite ad message) i (rw (table_count suite ad message d) h)

  module _ (h : i < length (risk_table suite ad message)) where
    whole : table_of d suite ad message ≡ text_labels Data ad ++ labels_of d suite 0 message
    whole = parts suite ad message d (not_refused suite ad message i h)

    pub row_data_lem : i < blocks_of ad → slice_get (table_of d suite ad message) i ≡ Some (block_label Data ad i)
    row_data_lem l = rw whole (in_text Data ad _ i l)

    pub row_later : (a : ℕ) → a ≡ blocks_of ad → a ≤ i → slice_get (table_of d suite ad message) i ≡ slice_get (labels_of d suite 0 message) (i - a)
    row_later a is-a l = rw whole (after_text Data ad _ i a is-a l)
