-- The tweaks of both modes are blocks, and so is what Auth and the checksum come to.
-- Assumes nothing.
use mathlib.Core.Path.{◌≡◌, refl, sym, ap, ◌∙◌}
use mathlib.Core.List.{List, [], ◌∷◌, ◌++◌}
use Prim.Native.Nat.{ℕ, zero, suc, ◌+◌, ◌-◌, ◌*◌, ◌/◌, ◌%◌, ◌≤◌, ◌<◌}
use native.Mathlib.Nat.{mod-lt, zero-lt-suc}
use native.Mathlib.Omega.{arith}
use lib.Dec.{lit<}
use lib.ListN.{length, get_or, drop, length-drop}
use Rattle.octets.specs.Octets.{Bytes, Block, table, zero_block, padded, big_endian}
use Rattle.octets.proofs.Xor.{⊕_block}
use Rattle.octets.proofs.Tables.{spelt}
use Rattle.octets.proofs.Parts.{part_block, part_bytes, padded-length}
use Rattle.tweakey.specs.declared.Subkeys.{Subkeys}
use Rattle.deoxys_bc.proofs.Rounds.{KeyParts, encipher_block}
use Rattle.tweaks.specs.Tweaks.{numbered, halves, paired, nonce_tweak, top_bit_set, keystream_tweak}
use Rattle.modes.specs.Rows.{enciphered, partial_row, text_rows, auth_rows, absorbed}
use Rattle.deoxys_i.specs.DeoxysI.{pad_in, checksum_of, checksum}
use Rattle.promises.proofs.Keys.{nil_bytes, cons_bytes, append_bytes, zeros_bytes}

rest : {x : ℕ} {s : List ℕ} → Bytes (x ∷ s) → Bytes s
rest p = record { at = λ i. p.at (suc i) }

pub zero_block_lem : Block zero_block
unfolding zero_block
zero_block_lem = record { size = refl; bytes = zeros_bytes 16 }

pub prefix_block : (x : ℕ) {nonce : List ℕ} → x < 256 → Bytes nonce → length nonce ≡ 15 → Block (x ∷ nonce)
prefix_block x h p e = record { size = ap suc e; bytes = cons_bytes h p }

-- ---- tweaks

big_endian_bytes : (k n : ℕ) → Bytes (big_endian k n)
unfolding big_endian
big_endian_bytes zero n = nil_bytes
big_endian_bytes (suc k) n = cons_bytes (mod-lt _ (zero-lt-suc 255)) (big_endian_bytes k n)

pub numbered_block : (kind i : ℕ) → kind < 256 → Block (numbered kind i)
unfolding numbered big_endian
numbered_block kind i h = record { size = refl; bytes = cons_bytes h (append_bytes (zeros_bytes 7) (big_endian_bytes 8 i)) }

-- half bytes
record Halves (s : List ℕ) : Type 0 where
  small : (i : ℕ) → get_or s i 0 < 16

halves_cons : {x : ℕ} {s : List ℕ} → x < 16 → Halves s → Halves (x ∷ s)
halves_cons {x} {s} h p = record { small = go }
  where
    go : (i : ℕ) → get_or (x ∷ s) i 0 < 16
    go zero = h
    go (suc i) = p.small i

halves_rest : {x : ℕ} {s : List ℕ} → Halves (x ∷ s) → Halves s
halves_rest p = record { small = λ i. p.small (suc i) }

halves-append : (s : List ℕ) {t : List ℕ} → Halves s → Halves t → Halves (s ++ t)
halves-append [] p q = q
halves-append (x ∷ s) p q = halves_cons (p.small 0) (halves-append s (halves_rest p) q)

halved : (s : List ℕ) → Bytes s → Halves (halves s)
halved [] p = record { small = λ i. lit< tt }
halved (x ∷ s) p =
    let h : x < 256 = p.at 0 in
    halves_cons (omega arith) (halves_cons (mod-lt x (zero-lt-suc 15)) (halved s (rest p)))

paired_bytes : (s : List ℕ) → Halves s → Bytes (paired s)
paired_bytes [] p = nil_bytes
paired_bytes (x ∷ []) p = nil_bytes
paired_bytes (x ∷ y ∷ s) p =
    let a : x < 16 = p.small 0 in
    let b : y < 16 = p.small 1 in
    cons_bytes (omega arith) (paired_bytes s (halves_rest (halves_rest p)))

halves-drop : (s : List ℕ) → Halves s → Halves (drop 1 s)
halves-drop [] p = p
halves-drop (x ∷ s) p = halves_rest p

spelled : (kind i : ℕ) (nonce : List ℕ) → length (nonce_tweak kind (table (λ k. get_or nonce k 0) 8) i) ≡ 16
unfolding nonce_tweak table big_endian
spelled kind i nonce = refl

pub nonce_block : (kind i : ℕ) (nonce : List ℕ) → kind < 16 → Bytes nonce → length nonce ≡ 8 → Block (nonce_tweak kind nonce i)
unfolding nonce_tweak
nonce_block kind i nonce h p e = record {
  size = size;
  bytes =
      paired_bytes (kind ∷ halves nonce ++ drop 1 (halves (big_endian 8 i)))
      (halves_cons h (halves-append (halves nonce) (halved nonce p) (halves-drop (halves (big_endian 8 i)) (halved (big_endian 8 i) (big_endian_bytes 8 i)))));
}
  where
    size : length (paired (kind ∷ halves nonce ++ drop 1 (halves (big_endian 8 i)))) ≡ 16
    size = ap (λ (n : List ℕ). length (nonce_tweak kind n i)) (sym (spelt nonce e)) ∙ spelled kind i nonce

top_block : (tag : List ℕ) → Block tag → Block (top_bit_set tag)
top_block [] p = p
top_block (x ∷ tag) p = record {
  size = p.size;
  bytes = cons_bytes (let h : x % 128 < 128 = mod-lt x (zero-lt-suc 127) in omega arith) (rest p.bytes);
}

pub keystream_block : (j : ℕ) {tag : List ℕ} → Block tag → Block (keystream_tweak tag j)
unfolding keystream_tweak numbered
keystream_block j {tag} p = ⊕_block (top_block tag p) (numbered_block 0 j (lit< tt))

-- ---- Auth and the checksum

pub padded_block : (s : List ℕ) → Bytes s → length s < 16 → Block (padded s)
unfolding padded
padded_block s p h = record { size = padded-length s h; bytes = append_bytes p (cons_bytes (lit< tt) (zeros_bytes (15 - length s))) }

module _ {k : Subkeys} (parts : KeyParts k) (full part : ℕ) (hf : full < 256) (hp : part < 256) (s : List ℕ) (p : Bytes s) where
  text_giving : (n i : ℕ) → 16 * (n + i) ≤ length s → length s < 16 * (n + i) + 16 → (auth : List ℕ) → Block auth
      → Block (absorbed auth (text_rows k full part s n i))
  unfolding text_rows absorbed
  text_giving zero i h l auth q = last (drop (16 * i) s) (part_bytes s (16 * i) p) (simp length-drop (omega arith))
    where
      last : (t : List ℕ) → Bytes t → length t < 16 → Block (absorbed auth (partial_row (λ b. enciphered k (numbered part i) (padded b)) t))
      last [] b h = q
      last (x ∷ t) b h = ⊕_block q (encipher_block parts (numbered_block part i hp) (padded_block (x ∷ t) b h))
  text_giving (suc n) i h l auth q =
      text_giving n (i + 1) (omega arith) (omega arith) _
      (⊕_block q (encipher_block parts (numbered_block full i hf) (part_block s (16 * i) (omega arith) p)))

  pub auth_block : (auth : List ℕ) → Block auth → Block (absorbed auth (auth_rows k full part s))
  auth_block auth q = text_giving (length s / 16) 0 (omega arith) (omega arith) auth q

sum_block : (s : List ℕ) → Bytes s → (n i : ℕ) → 16 * (n + i) ≤ length s → length s < 16 * (n + i) + 16 → (sum : List ℕ) → Block sum
    → Block (checksum_of s sum n i)
unfolding checksum_of
sum_block s p zero i h l sum q = last (drop (16 * i) s) (part_bytes s (16 * i) p) (simp length-drop (omega arith))
  where
    last : (t : List ℕ) → Bytes t → length t < 16 → Block (pad_in sum t)
    last [] b h = q
    last (x ∷ t) b h = ⊕_block q (padded_block (x ∷ t) b h)
sum_block s p (suc n) i h l sum q =
    sum_block s p n (i + 1) (omega arith) (omega arith) _ (⊕_block q (part_block s (16 * i) (omega arith) p))

pub checksum_block : (s : List ℕ) → Bytes s → Block (checksum s)
checksum_block s p = sum_block s p (length s / 16) 0 (omega arith) (omega arith) zero_block zero_block_lem
