-- Auth's loop: what is left to absorb from where the loop stands gives what there was to absorb at first.
-- Assumes nothing.
use mathlib.Core.Path.{◌≡◌, refl, sym, ◌∙◌}
use mathlib.Core.List.{List, [], ◌∷◌}
use Prim.Native.Nat.{ℕ, suc, ◌+◌, ◌-◌, ◌*◌, ◌<◌}
use native.Mathlib.Nat.{add-zero, not-suc-le-zero}
use native.Mathlib.Omega.{arith}
use lib.ListN.{length, drop}
use Rattle.std.proofs.lemmas.List.{nil_from_length}
use Rattle.octets.specs.Octets.{◌⊕◌, block_at, padded}
use Rattle.deoxys_bc.specs.Cipher.{encipher}
use Rattle.tweakey.specs.declared.Subkeys.{Subkeys}
use Rattle.tweaks.specs.Tweaks.{numbered}
use Rattle.modes.specs.Rows.{Row, enciphered, partial_row, text_rows, absorbed}
use Rattle.modes.specs.declared.Tally.{Tally}

abbrev pub done : Tally → List Row → Tally
done t rows = record { sum = absorbed t.sum rows; count = record { rows = t.count.rows + length rows } }

abbrev stepped : Tally → List ℕ → Tally
stepped t x = record { sum = t.sum ⊕ x; count = record { rows = t.count.rows + 1 } }

done_one : (t : Tally) (r : Row) (rows : List Row) → done t (r ∷ rows) ≡ done (stepped t r.to) rows
unfolding absorbed
done_one t r rows =
    let e : t.count.rows + suc (length rows) ≡ t.count.rows + 1 + length rows = omega arith in
    rw e

done_none : (t : Tally) → done t [] ≡ t
unfolding absorbed
done_none t = rw add-zero

pub partial_some : (call : List ℕ → Row) (s : List ℕ) → 0 < length s → partial_row call s ≡ call s ∷ []
partial_some call [] h = absurd (not-suc-le-zero h)
partial_some call (x ∷ s) h = refl

module _ (k : Subkeys) (full part : ℕ) (s : List ℕ) (n i : ℕ) (t w : Tally) (g : done t (text_rows k full part s (n - i) i) ≡ w) where
  pub auth_turn : (block : List ℕ) → block ≡ block_at s i → i < n
      → done (stepped t (encipher k (numbered full i) block)) (text_rows k full part s (n - (i + 1)) (i + 1)) ≡ w
  unfolding text_rows
  auth_turn block b h =
      let e : n - i ≡ suc (n - (i + 1)) = omega arith in
      rw b (sym (done_one t _ _) ∙ (rw e at g))

  module _ (rest : List ℕ) (r : rest ≡ drop (16 * n) s) (e : i ≡ n) where
    z : n - n ≡ 0
    z = omega arith

    pub auth_none : length rest ≡ 0 → t ≡ w
    unfolding text_rows
    auth_none h = sym (done_none t) ∙ (rw (e, z, ← r, nil_from_length rest h) at g)

    pub auth_part : 0 < length rest → stepped t (encipher k (numbered part n) (padded rest)) ≡ w
    unfolding text_rows
    auth_part h =
        let some = partial_some (λ p. enciphered k (numbered part n) (padded p)) rest h in
        sym (done_one t _ [] ∙ done_none _) ∙ (rw (e, z, ← r, some) at g)
