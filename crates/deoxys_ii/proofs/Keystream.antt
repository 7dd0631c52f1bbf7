-- Deoxys-II's loop over a text in place: what is still to do from where the loop stands gives what there was to do at first.
-- Assumes nothing.
use mathlib.Core.Path.{◌≡◌, sym, ap, ◌∙◌}
use mathlib.Core.List.{List, [], ◌∷◌, ◌++◌, append_assoc, append-nil}
use Prim.Native.Nat.{ℕ, suc, ◌+◌, ◌-◌, ◌*◌, ◌≤◌, ◌<◌}
use native.Mathlib.Nat.{sub-zero}
use native.Mathlib.Omega.{arith}
use lib.Dec.{lit≤}
use lib.ListN.{length, take, drop, drop_of_length-le, take-append-drop}
use lib.Seq.{drop-drop, take_all}
use borrow.Rule.Slice.PartMut.{put_mid}
use Rattle.octets.specs.Octets.{◌⊕◌}
use Rattle.octets.proofs.Xor.{⊕-length, ⊕-append}
use Rattle.octets.proofs.Parts.{part_length, put_take, put_drop}
use Rattle.deoxys_bc.specs.Cipher.{encipher}
use Rattle.tweakey.specs.declared.Subkeys.{Subkeys}
use Rattle.tweaks.specs.Tweaks.{keystream_tweak}
use Rattle.deoxys_ii.specs.DeoxysII.{keystream_from, given}

pub record Streaming (k : Subkeys) (tag nonce : List ℕ) (n i : ℕ) (s : List ℕ) (m : ℕ) (out : List ℕ) (count : ℕ) : Type 0 where
  pub outs : take (16 * i) s ++ (drop (16 * i) s ⊕ given (keystream_from k tag nonce (n - i) i)) ≡ out
  pub counts : m + length (keystream_from k tag nonce (n - i) i) ≡ count

module _ (k : Subkeys) (tag nonce : List ℕ) where
  pub stream_start : (n : ℕ) (s : List ℕ) (m : ℕ)
      → Streaming k tag nonce n 0 s m (s ⊕ given (keystream_from k tag nonce n 0)) (m + length (keystream_from k tag nonce n 0))
  stream_start n s m = record { outs = simp sub-zero; counts = simp sub-zero }

  module _ (n i : ℕ) (s : List ℕ) (m : ℕ) (out : List ℕ) (count : ℕ) (g : Streaming k tag nonce n i s m out count) where
    block : List ℕ
    block = encipher k (keystream_tweak tag i) (0 ∷ nonce)

    module _ (y : List ℕ) (h : i < n) (f : 16 * i + 16 ≤ length s) (lk : length (encipher k (keystream_tweak tag i) (0 ∷ nonce)) ≡ 16)
        (w : y ≡ take (16 * i + 16 - 16 * i) (drop (16 * i) s) ⊕ encipher k (keystream_tweak tag i) (0 ∷ nonce)) where
      next : 16 * (i + 1) ≡ 16 * i + 16
      next = omega arith

      wide : 16 * i + 16 - 16 * i ≡ 16
      wide = omega arith

      left : n - i ≡ suc (n - (i + 1))
      left = omega arith

      part : List ℕ
      part = take 16 (drop (16 * i) s)

      size : length part ≡ 16
      unfolding part
      size = part_length s (16 * i) f

      is : y ≡ part ⊕ block
      unfolding part block
      is = rw wide at w

      y_length : length y ≡ 16
      unfolding block
      y_length = ap length is ∙ ⊕-length part block (rw (size, lk) (lit≤ tt)) ∙ size

      put_is : put_mid (16 * i) (16 * i + 16 - 16 * i) s y ≡ take (16 * i) s ++ (y ++ drop (16 * i + 16) s)
      put_is = rw (wide, drop-drop 16 (16 * i) s)

      split : drop (16 * i) s ⊕ (block ++ given (keystream_from k tag nonce (n - (i + 1)) (i + 1)))
          ≡ y ++ (drop 16 (drop (16 * i) s) ⊕ given (keystream_from k tag nonce (n - (i + 1)) (i + 1)))
      unfolding part block
      split =
          ap (λ (l : List ℕ). l ⊕ (block ++ given (keystream_from k tag nonce (n - (i + 1)) (i + 1)))) (sym (take-append-drop 16 (drop (16 * i) s)))
          ∙ ⊕-append part (drop 16 (drop (16 * i) s)) block _ (size ∙ sym lk)
          ∙ ap (λ (l : List ℕ). l ++ (drop 16 (drop (16 * i) s) ⊕ given (keystream_from k tag nonce (n - (i + 1)) (i + 1)))) (sym is)

      pub stream_turn : Streaming k tag nonce n (i + 1) (put_mid (16 * i) (16 * i + 16 - 16 * i) s y) (m + 1) out count
      unfolding block keystream_from given
      stream_turn =
          let q : m + suc (length (keystream_from k tag nonce (n - (i + 1)) (i + 1))) ≡ count = rw left at g.counts in
          let p : take (16 * i) s ++ (drop (16 * i) s ⊕ (block ++ given (keystream_from k tag nonce (n - (i + 1)) (i + 1)))) ≡ out = rw left at g.outs in
          record {
            outs = rw (put_is, next, put_take s y (16 * i) 16 f y_length, put_drop s y (16 * i) 16 f y_length, ← drop-drop 16 (16 * i) s, append_assoc, ← split) p;
            counts = omega arith;
          }

    pub stream_none : n - i ≡ 0 → length s ≤ 16 * i → (m ≡ count) × (s ≡ out)
    unfolding keystream_from given ◌⊕◌
    stream_none z h =
        let q : m + 0 ≡ count = rw z at g.counts in
        (omega arith, sym (append-nil s) ∙ sym (ap (λ (x : List ℕ). x ++ []) (take_all (16 * i) s h)) ∙ (rw (z, drop_of_length-le s h) at g.outs))

    pub stream_part : n - i ≡ 1 → (m + 1 ≡ count) × (take (16 * i) s ++ (drop (16 * i) s ⊕ encipher k (keystream_tweak tag i) (0 ∷ nonce)) ≡ out)
    unfolding keystream_from given
    stream_part z = (rw z at g.counts, rw (z, append-nil) at g.outs)
