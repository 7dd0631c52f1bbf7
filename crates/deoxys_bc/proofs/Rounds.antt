-- Deciphering undoes enciphering and enciphering undoes deciphering, once over the number of rounds, for any key parts and tweak;
-- and the equivalent inverse cipher, round by round.
-- Assumes nothing.
use mathlib.Core.Path.{◌≡◌, sym, ap, ap₂, ◌∙◌}
use mathlib.Core.List.{List}
use Prim.Native.Nat.{ℕ, zero, suc, ◌+◌, ◌*◌, ◌≤◌}
use native.Mathlib.Nat.{le_refl}
use native.Mathlib.Omega.{arith}
use lib.ListN.{length}
use Rattle.octets.specs.Octets.{Bytes, Block, ◌⊕◌, block_at}
use Rattle.octets.proofs.Xor.{⊕_block, block_back}
use Rattle.octets.proofs.Parts.{part_block}
use Rattle.aes.specs.Round.{inv_sub_bytes, inv_shift_rows, mix_columns, inv_mix_columns, round, inv_round, equiv_inv_round}
use Rattle.aes.proofs.Mixing.{mix_block, inv_mix_block, inv_mix_mix, mix_inv_mix}
use Rattle.aes.proofs.Rounds.{inv_sub_block, inv_shift_block, round_block, inv_round_block, inv_round-round, round-inv_round, equiv_block, equiv_inv_round_lem}
use Rattle.tweakey.specs.Tweakey.{flat, round_key}
use Rattle.deoxys_bc.specs.Cipher.{after_rounds, before_rounds, encipher, decipher}
use Rattle.tweakey.specs.declared.Subkeys.{Subkeys}
use Rattle.tweakey.proofs.Flat.{flat_at}
use Rattle.tweakey.proofs.Tweakeys.{tweak_block, round_key-length}

-- key parts of bytes, enough for the rounds
pub record KeyParts (k : Subkeys) : Type 0 where
  pub bytes : Bytes k.bytes
  pub enough : 16 * (k.rounds + 1) ≤ length k.bytes

-- n rounds over flat round keys, and n rounds of the equivalent inverse cipher and the final mix
abbrev pub ran : List ℕ → List ℕ → ℕ → List ℕ
ran keys s zero = s
ran keys s (suc n) = round (ran keys s n) (block_at keys (suc n))

abbrev pub unran : List ℕ → List ℕ → ℕ → List ℕ
unran keys state zero = mix_columns state
unran keys state (suc n) = unran keys (equiv_inv_round state (inv_mix_columns (block_at keys n))) n

module _ {k : Subkeys} {tweak : List ℕ} (parts : KeyParts k) (p : Block tweak) where
  pub round_key_block : (i : ℕ) → i ≤ k.rounds → Block (round_key k tweak i)
  unfolding round_key
  round_key_block i h =
      let l : 16 * (k.rounds + 1) ≤ length k.bytes = parts.enough in
      ⊕_block (part_block k.bytes (16 * i) (omega arith) parts.bytes) (tweak_block i p)

  after_block : {s : List ℕ} → Block s → (n : ℕ) → n ≤ k.rounds → Block (after_rounds k tweak s n)
  unfolding after_rounds
  after_block q zero h = ⊕_block q (round_key_block 0 h)
  after_block q (suc n) h = round_block (after_block q n (omega arith)) (round_key_block (suc n) h)

  before_block : {s : List ℕ} → Block s → (n : ℕ) → n ≤ k.rounds → Block (before_rounds k tweak s n)
  unfolding before_rounds
  before_block q zero h = ⊕_block q (round_key_block 0 h)
  before_block {s} q (suc n) h = before_block {s = inv_round s (round_key k tweak (suc n))} (inv_round_block q (round_key_block (suc n) h)) n (omega arith)

  before_after : {s : List ℕ} → Block s → (n : ℕ) → n ≤ k.rounds → before_rounds k tweak (after_rounds k tweak s n) n ≡ s
  unfolding after_rounds before_rounds
  before_after q zero h = block_back q (round_key_block 0 h)
  before_after {s} q (suc n) h =
      ap (λ (t : List ℕ). before_rounds k tweak t n) (inv_round-round (after_block q n (omega arith)) (round_key_block (suc n) h))
      ∙ before_after q n (omega arith)

  after_before : {s : List ℕ} → Block s → (n : ℕ) → n ≤ k.rounds → after_rounds k tweak (before_rounds k tweak s n) n ≡ s
  unfolding after_rounds before_rounds
  after_before q zero h = block_back q (round_key_block 0 h)
  after_before {s} q (suc n) h =
      ap (λ (t : List ℕ). round t (round_key k tweak (suc n))) (after_before {s = inv_round s (round_key k tweak (suc n))} (inv_round_block q (round_key_block (suc n) h)) n (omega arith))
      ∙ round-inv_round q (round_key_block (suc n) h)

  module _ {block : List ℕ} (q : Block block) where
    pub encipher_block : Block (encipher k tweak block)
    unfolding encipher
    encipher_block = after_block q k.rounds (le_refl k.rounds)

    pub decipher_block : Block (decipher k tweak block)
    unfolding decipher
    decipher_block = before_block q k.rounds (le_refl k.rounds)

    pub decipher-encipher : decipher k tweak (encipher k tweak block) ≡ block
    unfolding encipher decipher
    decipher-encipher = before_after q k.rounds (le_refl k.rounds)

    pub encipher-decipher : encipher k tweak (decipher k tweak block) ≡ block
    unfolding encipher decipher
    encipher-decipher = after_before q k.rounds (le_refl k.rounds)

  -- ---- the same rounds over round keys that lie flat, as the code has them

  keys : List ℕ
  keys = flat (round_key k tweak) (k.rounds + 1)

  module _ (small : k.rounds ≤ 16) (fits : length k.bytes ≡ 272) where
    key_at : (i : ℕ) → i ≤ k.rounds → block_at keys i ≡ round_key k tweak i
    unfolding keys
    key_at i h = flat_at (round_key k tweak) (λ j b. round_key-length k j p (omega arith)) (k.rounds + 1) i (omega arith) (omega arith)

    ran_is : (s : List ℕ) (n : ℕ) → n ≤ k.rounds → ran keys (s ⊕ block_at keys 0) n ≡ after_rounds k tweak s n
    unfolding after_rounds
    ran_is s zero h = ap (λ (x : List ℕ). s ⊕ x) (key_at 0 h)
    ran_is s (suc n) h = ap₂ round (ran_is s n (omega arith)) (key_at (suc n) h)

    pub flat-encipher : (block : List ℕ)
        → ran (flat (round_key k tweak) (k.rounds + 1)) (block ⊕ block_at (flat (round_key k tweak) (k.rounds + 1)) 0) k.rounds ≡ encipher k tweak block
    unfolding keys encipher
    flat-encipher block = ran_is block k.rounds (le_refl k.rounds)

    -- the equivalent inverse cipher: its state before the rounds i to 1 are undone is the block there, XORed with its round key and unmixed
    abbrev Left : List ℕ → ℕ → List ℕ → Type 0
    Left state i block = before_rounds k tweak (mix_columns state ⊕ round_key k tweak i) i ≡ block

    start : (i : ℕ) → i ≤ k.rounds → {s : List ℕ} → Block s → Left (inv_mix_columns (s ⊕ round_key k tweak i)) i (before_rounds k tweak s i)
    start i h q =
        let key = round_key_block i h in
        ap (λ (t : List ℕ). before_rounds k tweak (t ⊕ round_key k tweak i) i) (mix_inv_mix (⊕_block q key))
        ∙ ap (λ (t : List ℕ). before_rounds k tweak t i) (block_back q key)

    turn : (i : ℕ) → suc i ≤ k.rounds → {state block : List ℕ} → Block state → Left state (suc i) block
        → Left (equiv_inv_round state (inv_mix_columns (round_key k tweak i))) i block
    unfolding before_rounds inv_round
    turn i h {state} q left =
        let key = round_key_block i (omega arith) in
        let undone = inv_sub_block (inv_shift_block q.bytes).bytes in
        ap (λ (t : List ℕ). before_rounds k tweak (mix_columns t ⊕ round_key k tweak i) i) (equiv_inv_round_lem q key)
        ∙ ap (λ (t : List ℕ). before_rounds k tweak (t ⊕ round_key k tweak i) i) (mix_inv_mix (⊕_block undone key))
        ∙ ap (λ (t : List ℕ). before_rounds k tweak t i) (block_back undone key)
        ∙ sym (ap (λ (t : List ℕ). before_rounds k tweak (inv_sub_bytes (inv_shift_rows t)) i)
        (ap inv_mix_columns (block_back (mix_block q.bytes) (round_key_block (suc i) h)) ∙ inv_mix_mix q))
        ∙ left

    unran_is : (n : ℕ) → n ≤ k.rounds → {state block : List ℕ} → Block state → Left state n block → unran keys state n ≡ block
    unfolding before_rounds
    unran_is zero h q left = sym (block_back (mix_block q.bytes) (round_key_block 0 h)) ∙ left
    unran_is (suc n) h {state} q left =
        let key = round_key_block n (omega arith) in
        ap (λ (x : List ℕ). unran keys (equiv_inv_round state (inv_mix_columns x)) n) (key_at n (omega arith))
        ∙ unran_is n (omega arith) (equiv_block q (inv_mix_block key.bytes)) (turn n h q left)

    pub flat-decipher : {block : List ℕ} → Block block
        → unran (flat (round_key k tweak) (k.rounds + 1)) (inv_mix_columns (block ⊕ block_at (flat (round_key k tweak) (k.rounds + 1)) k.rounds)) k.rounds
        ≡ decipher k tweak block
    unfolding keys decipher
    flat-decipher {block} q =
        let e : block_at keys k.rounds ≡ round_key k tweak k.rounds = key_at k.rounds (le_refl k.rounds) in
        ap (λ (x : List ℕ). unran keys (inv_mix_columns (block ⊕ x)) k.rounds) e
        ∙ unran_is k.rounds (le_refl k.rounds) (inv_mix_block (⊕_block q (round_key_block k.rounds (le_refl k.rounds))).bytes) (start k.rounds (le_refl k.rounds) q)
