-- Deoxys-I both ways: deciphering a message's rows undoes enciphering them, and the other way round, by one induction over the blocks.
-- Assumes nothing.
use mathlib.Core.Path.{◌≡◌, refl, ap, ◌∙◌}
use mathlib.Core.Bool.{Bool, true, false}
use mathlib.Core.List.{List, [], ◌∷◌}
use Prim.Native.Nat.{ℕ, zero, suc, ◌+◌, ◌-◌, ◌*◌, ◌/◌, ◌%◌, ◌≤◌, ◌<◌}
use native.Mathlib.Omega.{arith}
use lib.Dec.{eqb, lit<}
use lib.ListN.{length, take, drop, length-append, length-drop, take-append-drop}
use lib.Seq.{take_at, drop_at}
use Rattle.octets.specs.Octets.{Bytes, Block, pick, ◌⊕◌, zero_block}
use Rattle.octets.proofs.Xor.{⊕-length, ⊕_bytes, ⊕_back, ⊕_block}
use Rattle.octets.proofs.Parts.{part_bytes, part_block}
use Rattle.deoxys_bc.specs.Cipher.{encipher}
use Rattle.tweakey.specs.declared.Subkeys.{Subkeys}
use Rattle.deoxys_bc.proofs.Rounds.{KeyParts, encipher_block, decipher_block, decipher-encipher, encipher-decipher}
use Rattle.tweaks.specs.Tweaks.{nonce_tweak}
use Rattle.modes.specs.Rows.{Row, enciphered, deciphered, data_rows, absorbed}
use Rattle.deoxys_i.specs.DeoxysI.{message_rows, text_of, tag_row, crypted, seal_i, open_i}
use Rattle.modes.proofs.Authenticating.{partial_some}
use Rattle.promises.proofs.Undoing.{Like, Mode}
use Rattle.promises.proofs.Keys.{append_bytes}
use Rattle.promises.proofs.Blocks.{zero_block_lem, nonce_block, auth_block, checksum_block}

-- a call gives blocks, and another undoes it
record Undoes (call call' : List ℕ → List ℕ → Row) : Type 0 where
  gives : (t b : List ℕ) → Block t → Block b → Block (call t b).to
  back : (t b : List ℕ) → Block t → Block b → (call' t (call t b).to).to ≡ b

module _ {k : Subkeys} (parts : KeyParts k) where
  deciphering : Undoes (enciphered k) (deciphered k)
  deciphering = record { gives = λ t b p q. encipher_block parts p q; back = λ t b p q. decipher-encipher parts p q }

  enciphering : Undoes (deciphered k) (enciphered k)
  enciphering = record { gives = λ t b p q. decipher_block parts p q; back = λ t b p q. encipher-decipher parts p q }

  module _ {nonce : List ℕ} (pn : Bytes nonce) (en : length nonce ≡ 8) where
    stream : ℕ → List ℕ
    stream i = encipher k (nonce_tweak 4 nonce i) zero_block

    stream_block : (i : ℕ) → Block (stream i)
    unfolding stream
    stream_block i = encipher_block parts (nonce_block 4 i nonce (lit< tt) pn en) zero_block_lem

    module _ {call call' : List ℕ → List ℕ → Row} (u : Undoes call call') where
      first_block : (i : ℕ) (s : List ℕ) → Bytes s → 16 ≤ length s → Block (call (nonce_tweak 0 nonce i) (take 16 s)).to
      first_block i s p h = u.gives _ _ (nonce_block 0 i nonce (lit< tt) pn en) (part_block s 0 (omega arith) p)

      stays : (n i : ℕ) (s : List ℕ) → Bytes s → 16 * n ≤ length s → length s < 16 * n + 16 → Like s (text_of n (message_rows call k nonce n i s) s)
      unfolding message_rows text_of stream
      stays zero i [] p h l = record { size = refl; bytes = p }
      stays zero i (x ∷ s) p h l =
          let b : length (stream i) ≡ 16 = (stream_block i).size in
          record { size = ⊕-length (x ∷ s) (stream i) (omega arith); bytes = ⊕_bytes p (stream_block i).bytes }
      stays (suc n) i s p h l =
          let d : length (drop 16 s) ≡ length s - 16 = length-drop 16 s in
          let f = first_block i s p (omega arith) in
          let r = stays n (i + 1) (drop 16 s) (part_bytes s 16 p) (omega arith) (omega arith) in
          let a : length (call (nonce_tweak 0 nonce i) (take 16 s)).to ≡ 16 = f.size in
          let b : length (text_of n (message_rows call k nonce n (i + 1) (drop 16 s)) (drop 16 s)) ≡ length (drop 16 s) = r.size in
          record { size = length-append (call (nonce_tweak 0 nonce i) (take 16 s)).to _ ∙ omega arith; bytes = append_bytes f.bytes r.bytes }

      undone : (n i : ℕ) (s : List ℕ) → Bytes s → 16 * n ≤ length s → length s < 16 * n + 16
          → text_of n (message_rows call' k nonce n i (text_of n (message_rows call k nonce n i s) s)) (text_of n (message_rows call k nonce n i s) s) ≡ s
      unfolding message_rows text_of stream
      undone zero i [] p h l = refl
      undone zero i (x ∷ s) p h l =
          let b : length (stream i) ≡ 16 = (stream_block i).size in
          let z : length ((x ∷ s) ⊕ stream i) ≡ length (x ∷ s) = ⊕-length (x ∷ s) (stream i) (omega arith) in
          rw (partial_some (λ t. enciphered k (nonce_tweak 4 nonce i) zero_block) ((x ∷ s) ⊕ stream i) (omega arith)) (⊕_back (x ∷ s) (stream i) (omega arith))
      undone (suc n) i s p h l =
          let d : length (drop 16 s) ≡ length s - 16 = length-drop 16 s in
          let f = first_block i s p (omega arith) in
          let b = (call (nonce_tweak 0 nonce i) (take 16 s)).to in
          let r = text_of n (message_rows call k nonce n (i + 1) (drop 16 s)) (drop 16 s) in
          rw (
            take_at b r 16 f.size,
            drop_at b r 16 f.size,
            u.back (nonce_tweak 0 nonce i) (take 16 s) (nonce_block 0 i nonce (lit< tt) pn en) (part_block s 0 (omega arith) p),
            undone n (i + 1) (drop 16 s) (part_bytes s 16 p) (omega arith) (omega arith),
          )
          (take-append-drop 16 s)

      crypted_like : (s : List ℕ) → Bytes s → Like s (crypted call k nonce s)
      crypted_like s p = stays (length s / 16) 0 s p (omega arith) (omega arith)

      crypted_undone : (s : List ℕ) → Bytes s → crypted call' k nonce (crypted call k nonce s) ≡ s
      crypted_undone s p = rw (crypted_like s p).size (undone (length s / 16) 0 s p (omega arith) (omega arith))

    kind_lt : (whole : Bool) → pick whole 1 5 < 16
    kind_lt true = lit< tt
    kind_lt false = lit< tt

    module _ {ad : List ℕ} (pa : Bytes ad) where
      tagged : List ℕ → List ℕ
      tagged m = absorbed zero_block (data_rows k ad) ⊕ (tag_row k nonce m).to

      tagged_block : (m : List ℕ) → Bytes m → Block (tagged m)
      unfolding tagged
      tagged_block m p =
          ⊕_block (auth_block parts 32 96 (lit< tt) (lit< tt) ad pa zero_block zero_block_lem)
          (encipher_block parts (nonce_block _ _ nonce (kind_lt (eqb (length m % 16) 0)) pn en) (checksum_block m p))

      pub mode_i : Mode (seal_i k nonce ad) (λ c t. open_i k nonce ad c)
      unfolding seal_i open_i tagged
      mode_i = record {
        sealed_like = crypted_like deciphering;
        tag_block = tagged_block;
        opened_like = λ c t p q. crypted_like enciphering c p;
        gives_back = crypted_undone deciphering;
        same_tag = λ m p. ap tagged (crypted_undone deciphering m p);
        remakes = λ c t p q e. crypted_undone enciphering c p;
        remakes_tag = λ c t p q e. e;
      }
