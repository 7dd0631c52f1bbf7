-- The expanded key of a key of bytes is key parts of bytes, enough for its rounds.
-- Assumes nothing.
use mathlib.Core.Path.{◌≡◌, refl, subst}
use mathlib.Core.Logic.{◌⊎◌, ⊎_elim}
use mathlib.Core.List.{List, [], ◌∷◌, ◌++◌}
use Prim.Native.Nat.{ℕ, zero, suc, ◌+◌, ◌-◌, ◌*◌, ◌<◌}
use native.Mathlib.Omega.{arith}
use lib.Dec.{lit<}
use lib.ListN.{length, get_or, take, drop, replicate, length-drop}
use lib.Seq.{take_all}
use borrow.Author.Tests.{eq-eqb, ne_eqb}
use Rattle.octets.specs.Octets.{Bytes, Block}
use Rattle.octets.proofs.Xor.{⊕_block}
use Rattle.octets.proofs.Parts.{part_block}
use Rattle.aes.proofs.Linear.{double_lt}
use Rattle.tweakey.specs.Tweakey.{round_constant, constant_block, key_part, joined, flat, expanded}
use Rattle.tweakey.proofs.Flat.{flat-length}
use Rattle.tweakey.proofs.Tweakeys.{tk2_block, tk3_block, rounds_small}
use Rattle.deoxys_bc.proofs.Rounds.{KeyParts}

-- ---- bytes of lists

pub nil_bytes : Bytes []
nil_bytes = record { at = λ i. lit< tt }

pub cons_bytes : {x : ℕ} {s : List ℕ} → x < 256 → Bytes s → Bytes (x ∷ s)
cons_bytes {x} {s} h p = record { at = go }
  where
    go : (i : ℕ) → get_or (x ∷ s) i 0 < 256
    go zero = h
    go (suc i) = p.at i

pub append_bytes : {s t : List ℕ} → Bytes s → Bytes t → Bytes (s ++ t)
append_bytes {s} {t} p q = go s p
  where
    go : (s : List ℕ) → Bytes s → Bytes (s ++ t)
    go [] p = q
    go (x ∷ s) p = cons_bytes (p.at 0) (go s (record { at = λ i. p.at (suc i) }))

pub zeros_bytes : (n : ℕ) → Bytes (replicate n 0)
zeros_bytes zero = nil_bytes
zeros_bytes (suc n) = cons_bytes (lit< tt) (zeros_bytes n)

-- ---- key parts

constant_lt : (i : ℕ) → round_constant i < 256
unfolding round_constant
constant_lt zero = lit< tt
constant_lt (suc i) = double_lt (round_constant i)

constant_block_lem : (i : ℕ) → Block (constant_block i)
unfolding constant_block
constant_block_lem i = record { size = refl; bytes = four (four' (zeros_bytes 8)) }
  where
    four : {s : List ℕ} → Bytes s → Bytes (1 ∷ 2 ∷ 4 ∷ 8 ∷ s)
    four p = cons_bytes (lit< tt) (cons_bytes (lit< tt) (cons_bytes (lit< tt) (cons_bytes (lit< tt) p)))

    four' : {s : List ℕ} → Bytes s → Bytes (round_constant i ∷ round_constant i ∷ round_constant i ∷ round_constant i ∷ s)
    four' p = cons_bytes (constant_lt i) (cons_bytes (constant_lt i) (cons_bytes (constant_lt i) (cons_bytes (constant_lt i) p)))

module _ {key : List ℕ} (p : Bytes key) where
  part_block_16 : length key ≡ 16 → (i : ℕ) → Block (key_part key i)
  unfolding key_part
  part_block_16 e i =
      rw (eq-eqb (length key) 16 e) (⊕_block (tk2_block i (record { size = e; bytes = p })) (constant_block_lem i))

  part_block_32 : length key ≡ 32 → (i : ℕ) → Block (key_part key i)
  unfolding key_part
  part_block_32 e i =
      let first : Block (take 16 key) = part_block key 0 (omega arith) p in
      let last : Block (drop 16 key) = subst Block (take_all 16 (drop 16 key) (simp length-drop (omega arith))) (part_block key 16 (omega arith) p) in
      rw (ne_eqb (length key) 16 (λ q. omega arith)) (⊕_block (⊕_block (tk3_block i first) (tk2_block i last)) (constant_block_lem i))

  part_is_block : (length key ≡ 16) ⊎ (length key ≡ 32) → (i : ℕ) → Block (key_part key i)
  part_is_block sized i = ⊎_elim (λ e. part_block_16 e i) (λ e. part_block_32 e i) sized

  pub key_parts : (length key ≡ 16) ⊎ (length key ≡ 32) → KeyParts (expanded key)
  unfolding expanded flat
  key_parts sized = record {
    bytes = append_bytes (all ((expanded key).rounds + 1)) (zeros_bytes (272 - 16 * ((expanded key).rounds + 1)));
    enough =
        let small = rounds_small key in
        let fits = flat-length (key_part key) (λ j b. (part_is_block sized j).size) ((expanded key).rounds + 1) (omega arith) in
        omega arith;
  }
    where
      all : (n : ℕ) → Bytes (joined (key_part key) n)
      all zero = nil_bytes
      all (suc n) = append_bytes (all n) (part_is_block sized n).bytes
