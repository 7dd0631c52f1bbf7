-- Deoxys-I's loop over a message in place: what is still to do from where the loop stands gives what there was to do at first.
-- Assumes nothing.
use mathlib.Core.Path.{◌≡◌, sym, ap, ◌∙◌}
use mathlib.Core.List.{List, [], ◌++◌, append_assoc, append-nil}
use Prim.Native.Nat.{ℕ, suc, ◌+◌, ◌-◌, ◌*◌, ◌≤◌, ◌<◌}
use native.Mathlib.Nat.{sub-zero, add-zero}
use native.Mathlib.Omega.{arith}
use lib.ListN.{length, take, drop, length-append, length-drop, drop_of_length-le}
use lib.Seq.{drop-drop, take_all, length-take-le}
use Rattle.octets.specs.Octets.{◌⊕◌, zero_block}
use Rattle.octets.proofs.Parts.{put_take, put_drop}
use Rattle.deoxys_bc.specs.Cipher.{encipher}
use Rattle.tweakey.specs.declared.Subkeys.{Subkeys}
use Rattle.tweaks.specs.Tweaks.{nonce_tweak}
use Rattle.modes.specs.Rows.{Row, enciphered}
use Rattle.deoxys_i.specs.DeoxysI.{message_rows, text_of}
use Rattle.modes.proofs.Authenticating.{partial_some}

pub record Crypting (call : List ℕ → List ℕ → Row) (k : Subkeys) (nonce : List ℕ) (first n i : ℕ) (s : List ℕ) (m : ℕ) (out : List ℕ) (count : ℕ)
    : Type 0 where
  pub outs : take (16 * i) s ++ text_of (n - i) (message_rows call k nonce (n - i) (first + i) (drop (16 * i) s)) (drop (16 * i) s) ≡ out
  pub counts : m + length (message_rows call k nonce (n - i) (first + i) (drop (16 * i) s)) ≡ count

module _ (call : List ℕ → List ℕ → Row) (k : Subkeys) (nonce : List ℕ) (first : ℕ) where
  pub crypt_start : (n : ℕ) (s : List ℕ) (m : ℕ)
      → Crypting call k nonce first n 0 s m (text_of n (message_rows call k nonce n first s) s) (m + length (message_rows call k nonce n first s))
  crypt_start n s m = record { outs = simp (sub-zero, add-zero); counts = simp (sub-zero, add-zero) }

  module _ (n i : ℕ) (s : List ℕ) (m : ℕ) (out : List ℕ) (count : ℕ) (g : Crypting call k nonce first n i s m out count) where
    given : List ℕ
    given = (call (nonce_tweak 0 nonce (first + i)) (take 16 (drop (16 * i) s))).to

    module _ (d : List ℕ) (h : i < n) (f : 16 * i + 16 ≤ length s) (l : length d ≡ length s)
        (w : d ≡ take (16 * i) s ++ ((call (nonce_tweak 0 nonce (first + i)) (take 16 (drop (16 * i) s))).to ++ drop (16 * i + 16) s)) where
      next : 16 * (i + 1) ≡ 16 * i + 16
      next = omega arith

      left : n - i ≡ suc (n - (i + 1))
      left = omega arith

      given-length : length given ≡ 16
      unfolding given
      given-length =
          let t : length (take (16 * i) s) ≡ 16 * i = length-take-le (16 * i) s (omega arith) in
          let e = simp (length-append, length-drop) at (ap length w) in
          omega arith

      taken : take (16 * (i + 1)) d ≡ take (16 * i) s ++ given
      unfolding given
      taken = rw (next, w) (put_take s given (16 * i) 16 f given-length)

      dropped : drop (16 * (i + 1)) d ≡ drop 16 (drop (16 * i) s)
      unfolding given
      dropped = rw (next, w) (put_drop s given (16 * i) 16 f given-length ∙ sym (drop-drop 16 (16 * i) s))

      number : first + (i + 1) ≡ first + i + 1
      number = omega arith

      pub crypt_turn : Crypting call k nonce first n (i + 1) d (m + 1) out count
      unfolding given message_rows text_of
      crypt_turn =
          let q : m + suc (length (message_rows call k nonce (n - (i + 1)) (first + i + 1) (drop 16 (drop (16 * i) s)))) ≡ count = rw left at g.counts in
          record {
            outs = rw (number, taken, dropped, append_assoc) (rw left at g.outs);
            counts = rw (number, dropped) (omega arith);
          }

    module _ (e : i ≡ n) where
      pub crypt_none : length s ≤ 16 * n → (m ≡ count) × (s ≡ out)
      unfolding message_rows text_of
      crypt_none h =
          let z : n - n ≡ 0 = omega arith in
          let q : m + 0 ≡ count = rw (e, z, drop_of_length-le s h) at g.counts in (
            omega arith,
            sym (append-nil s) ∙ sym (ap (λ (x : List ℕ). x ++ []) (take_all (16 * n) s h)) ∙ (rw (e, z, drop_of_length-le s h) at g.outs),
          )

      pub crypt_part : 16 * n < length s
          → (m + 1 ≡ count)
          × ((number : ℕ) → number ≡ first + n → take (16 * n) s ++ (drop (16 * n) s ⊕ encipher k (nonce_tweak 4 nonce number) zero_block) ≡ out)
      unfolding message_rows text_of
      crypt_part h =
          let z : n - n ≡ 0 = omega arith in
          let r = partial_some (λ p. enciphered k (nonce_tweak 4 nonce (first + n)) zero_block) (drop (16 * n) s) (simp length-drop (omega arith)) in
          (rw (e, z, r) at g.counts, λ number x. rw x (rw (e, z, r) at g.outs))
