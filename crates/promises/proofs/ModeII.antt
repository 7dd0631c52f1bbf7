-- Deoxys-II both ways: a text XORed twice with the keystream of one tag is the text.
-- Assumes nothing.
use mathlib.Core.Path.{◌≡◌, refl, ap, ◌∙◌}
use mathlib.Core.List.{List, ◌∷◌}
use Prim.Native.Nat.{ℕ, zero, suc, ◌+◌, ◌*◌, ◌/◌, ◌≤◌}
use native.Mathlib.Omega.{arith}
use lib.Dec.{lit<}
use lib.ListN.{length, length-append}
use Rattle.octets.specs.Octets.{Bytes, Block, ◌⊕◌, zero_block}
use Rattle.octets.proofs.Xor.{⊕-length, ⊕_bytes, ⊕_back}
use Rattle.deoxys_bc.specs.Cipher.{encipher}
use Rattle.tweakey.specs.declared.Subkeys.{Subkeys}
use Rattle.deoxys_bc.proofs.Rounds.{KeyParts, encipher_block}
use Rattle.tweaks.specs.Tweaks.{keystream_tweak}
use Rattle.modes.specs.Rows.{blocks}
use Rattle.deoxys_ii.specs.DeoxysII.{tag_row, keystream_from, keystream_rows, given, crypted, seal_ii, open_ii}
use Rattle.promises.proofs.Keys.{nil_bytes, append_bytes}
use Rattle.promises.proofs.Blocks.{zero_block_lem, prefix_block, keystream_block, auth_block}
use Rattle.promises.proofs.Undoing.{Like, Mode}

-- n blocks end to end
record Stream (n : ℕ) (s : List ℕ) : Type 0 where
  size : length s ≡ 16 * n
  bytes : Bytes s

module _ {k : Subkeys} (parts : KeyParts k) {nonce : List ℕ} (pn : Bytes nonce) (en : length nonce ≡ 15) where
  module _ {tag : List ℕ} (pt : Block tag) where
    stream : (n j : ℕ) → Stream n (given (keystream_from k tag nonce n j))
    unfolding keystream_from given
    stream zero j = record { size = refl; bytes = nil_bytes }
    stream (suc n) j =
        let block = encipher_block parts (keystream_block j pt) (prefix_block 0 (lit< tt) pn en) in
        let rest = stream n (j + 1) in
        let a : length (encipher k (keystream_tweak tag j) (0 ∷ nonce)) ≡ 16 = block.size in
        let b : length (given (keystream_from k tag nonce n (j + 1))) ≡ 16 * n = rest.size in
        record { size = length-append (encipher k (keystream_tweak tag j) (0 ∷ nonce)) _ ∙ omega arith; bytes = append_bytes block.bytes rest.bytes }

    long_enough : (s : List ℕ) → length s ≤ length (given (keystream_rows k tag nonce s))
    long_enough s =
        let a : length (given (keystream_rows k tag nonce s)) ≡ 16 * ((length s + 15) / 16) = (stream (blocks s) 0).size in
        omega arith

    crypted_like : (s : List ℕ) → Bytes s → Like s (crypted k tag nonce s)
    crypted_like s p = record { size = ⊕-length s _ (long_enough s); bytes = ⊕_bytes p (stream (blocks s) 0).bytes }

    crypted_twice : (s : List ℕ) → Bytes s → crypted k tag nonce (crypted k tag nonce s) ≡ s
    crypted_twice s p =
        ap (λ (n : ℕ). crypted k tag nonce s ⊕ given (keystream_from k tag nonce ((n + 15) / 16) 0)) (crypted_like s p).size
        ∙ ⊕_back s (given (keystream_rows k tag nonce s)) (long_enough s)

  module _ {ad : List ℕ} (pa : Bytes ad) where
    tagged : List ℕ → List ℕ
    tagged m = (tag_row k nonce ad m).to

    tagged_block : (m : List ℕ) → Bytes m → Block (tagged m)
    unfolding tagged
    tagged_block m p =
        encipher_block parts (prefix_block 16 (lit< tt) pn en)
        (auth_block parts 0 64 (lit< tt) (lit< tt) m p _ (auth_block parts 32 96 (lit< tt) (lit< tt) ad pa zero_block zero_block_lem))

    pub mode_ii : Mode (seal_ii k nonce ad) (open_ii k nonce ad)
    unfolding seal_ii open_ii tagged
    mode_ii = record {
      sealed_like = λ m p. crypted_like (tagged_block m p) m p;
      tag_block = tagged_block;
      opened_like = λ c t p q. crypted_like q c p;
      gives_back = λ m p. crypted_twice (tagged_block m p) m p;
      same_tag = λ m p. ap tagged (crypted_twice (tagged_block m p) m p);
      remakes = λ c t p q e. ap (λ (s : List ℕ). crypted k s nonce (crypted k t nonce c)) e ∙ crypted_twice q c p;
      remakes_tag = λ c t p q e. e;
    }
