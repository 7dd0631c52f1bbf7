-- Rows, text and checksum of a message whose first part is of whole blocks, from those of its two parts.
-- Assumes nothing.
use mathlib.Core.Path.{◌≡◌, ap, ◌∙◌}
use mathlib.Core.List.{List, [], ◌∷◌, ◌++◌, append_assoc}
use Prim.Native.Nat.{ℕ, zero, suc, ◌+◌, ◌*◌, ◌/◌, ◌%◌, ◌≤◌}
use native.Mathlib.Nat.{add-zero, zero-add}
use native.Mathlib.Omega.{arith}
use lib.ListN.{length, drop, length-append, length-drop, drop_of_length-le}
use lib.Seq.{take-append-le, drop-append-le, drop-append-add}
use Rattle.octets.specs.Octets.{◌⊕◌, zero_block, block_at}
use Rattle.tweakey.specs.declared.Subkeys.{Subkeys}
use Rattle.modes.specs.Rows.{Row}
use Rattle.deoxys_i.specs.DeoxysI.{message_rows, text_of, checksum_of, summed, checksum, rows_from, text_from, crypt_rows, crypted}
use Rattle.deoxys_i.proofs.Counts.{crypt_count}

module _ (call : List ℕ → List ℕ → Row) (k : Subkeys) (nonce : List ℕ) where
  rows_of_two : (n m i : ℕ) (a b : List ℕ) → length a ≡ 16 * n
      → message_rows call k nonce (n + m) i (a ++ b) ≡ message_rows call k nonce n i a ++ message_rows call k nonce m (i + n) b
  unfolding message_rows
  rows_of_two zero m i [] b e = rw (zero-add, add-zero)
  rows_of_two zero m i (x ∷ a) b e = let z : length (x ∷ a) ≡ 0 = e in absurd (omega arith)
  rows_of_two (suc n) m i a b e =
      let s : suc n + m ≡ suc (n + m) = omega arith in
      let t : i + suc n ≡ i + 1 + n = omega arith in
      let l : length (drop 16 a) ≡ 16 * n = length-drop 16 a ∙ omega arith in
      rw (s, t, take-append-le 16 a b (omega arith), drop-append-le 16 a b (omega arith), rows_of_two n m (i + 1) (drop 16 a) b l)

text_of_two : (n m : ℕ) (rows rows' : List Row) (a b : List ℕ) → length rows ≡ n → length a ≡ 16 * n
    → text_of (n + m) (rows ++ rows') (a ++ b) ≡ text_of n rows a ++ text_of m rows' b
unfolding text_of
text_of_two zero m [] rows' [] b h e = rw zero-add
text_of_two zero m [] rows' (x ∷ a) b h e = let z : length (x ∷ a) ≡ 0 = e in absurd (omega arith)
text_of_two zero m (r ∷ rows) rows' a b h e = let z : length (r ∷ rows) ≡ 0 = h in absurd (omega arith)
text_of_two (suc n) m [] rows' a b h e = let z : 0 ≡ suc n = h in absurd (omega arith)
text_of_two (suc n) m (r ∷ rows) rows' a b h e =
    let s : suc n + m ≡ suc (n + m) = omega arith in
    let z : length rows ≡ n = (let y : length (r ∷ rows) ≡ suc n = h in omega arith) in
    let l : length (drop 16 a) ≡ 16 * n = length-drop 16 a ∙ omega arith in
    rw (s, drop-append-le 16 a b (omega arith), text_of_two n m rows rows' (drop 16 a) b z l, append_assoc)

module _ (a b : List ℕ) where
  block_before : (i : ℕ) → 16 * i + 16 ≤ length a → block_at (a ++ b) i ≡ block_at a i
  block_before i h =
      let l = length-drop (16 * i) a in
      rw (drop-append-le (16 * i) a b (omega arith)) (take-append-le 16 (drop (16 * i) a) b (omega arith))

  sum_past : (m i j : ℕ) (sum : List ℕ) → length a ≡ 16 * i → checksum_of (a ++ b) sum m (i + j) ≡ checksum_of b sum m j
  unfolding checksum_of
  sum_past zero i j sum e =
      let s : 16 * (i + j) ≡ length a + 16 * j = omega arith in
      rw (s, drop-append-add)
  sum_past (suc m) i j sum e =
      let s : 16 * (i + j) ≡ length a + 16 * j = omega arith in
      let t : i + j + 1 ≡ i + (j + 1) = omega arith in
      rw (s, t, drop-append-add) (sum_past m i (j + 1) (sum ⊕ block_at b j) e)

  sum_of_two : (n m i : ℕ) (sum : List ℕ) → length a ≡ 16 * (i + n) → checksum_of (a ++ b) sum (n + m) i ≡ checksum_of b (checksum_of a sum n i) m 0
  unfolding checksum_of
  sum_of_two zero m i sum e =
      rw (zero-add, drop_of_length-le a {i = 16 * i} (omega arith)) (rw add-zero at (sum_past m i 0 sum (omega arith)))
  sum_of_two (suc n) m i sum e =
      let s : suc n + m ≡ suc (n + m) = omega arith in
      rw s
      (ap (λ (block : List ℕ). checksum_of (a ++ b) (sum ⊕ block) (n + m) (i + 1)) (block_before i (omega arith))
      ∙ sum_of_two n m (i + 1) (sum ⊕ block_at a i) (omega arith))

-- ---- a message of which so much was taken, and the next piece

module _ (message piece : List ℕ) (whole : length message % 16 ≡ 0) where
  blocks_of_two : length (message ++ piece) / 16 ≡ length message / 16 + length piece / 16
  blocks_of_two = rw length-append (omega arith)

  pub sum_joined : checksum (message ++ piece) ≡ summed (checksum message) piece
  sum_joined = rw blocks_of_two (sum_of_two message piece (length message / 16) (length piece / 16) 0 zero_block (omega arith))

  module _ (call : List ℕ → List ℕ → Row) (k : Subkeys) (nonce : List ℕ) where
    pub rows_joined : crypt_rows call k nonce (message ++ piece)
        ≡ crypt_rows call k nonce message ++ rows_from (length message / 16) call k nonce piece
    rows_joined =
        rw (blocks_of_two, rows_of_two call k nonce (length message / 16) (length piece / 16) 0 message piece (omega arith), zero-add)

    pub text_joined : crypted call k nonce (message ++ piece)
        ≡ crypted call k nonce message ++ text_from (length message / 16) call k nonce piece
    text_joined =
        let count : length (crypt_rows call k nonce message) ≡ length message / 16 = crypt_count call k nonce message ∙ omega arith in
        rw (blocks_of_two, rows_of_two call k nonce (length message / 16) (length piece / 16) 0 message piece (omega arith), zero-add)
        (text_of_two (length message / 16) (length piece / 16) _ _ message piece count (omega arith))
