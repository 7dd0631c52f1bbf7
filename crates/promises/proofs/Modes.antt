-- The four suites as modes that are each other's inverses, and their row counts; each fact shown once for Deoxys-I and Deoxys-II.
-- Assumes nothing.
use mathlib.Core.Path.{◌≡◌, refl}
use mathlib.Core.Bool.{Bool, true, false}
use mathlib.Core.List.{List}
use Prim.Native.Nat.{ℕ, ◌+◌, ◌*◌}
use native.Mathlib.Omega.{arith}
use lib.Dec.{leb}
use lib.ListN.{length, length-append}
use borrow.Author.Tests.{leb-true, leb-false}
use Rattle.octets.specs.Octets.{Bytes, Block, pick}
use Rattle.tweakey.specs.Tweakey.{expanded}
use Rattle.tweakey.specs.declared.Subkeys.{Subkeys}
use Rattle.modes.specs.Rows.{Row, deciphered, Outcome, blocks}
use Rattle.deoxys_i.specs.DeoxysI as I
use Rattle.deoxys_ii.specs.DeoxysII as II
use Rattle.modes.proofs.Counts.{auth_count}
use Rattle.deoxys_i.proofs.Counts.{crypt_count}
use Rattle.deoxys_ii.proofs.Counts.{keystream_count}
use Rattle.deoxys.specs.Entry.{sealed, opened}
use Rattle.suites.proofs.Refusals.{Good, key_is, nonce_i, nonce_ii}
use Rattle.promises.specs.Statements.{Given, rows_for}
use Rattle.promises.proofs.Keys.{key_parts}
use Rattle.promises.proofs.Undoing.{Mode}
use Rattle.promises.proofs.ModeI.{mode_i}
use Rattle.promises.proofs.ModeII.{mode_ii}

either : (b : Bool) (f g : List ℕ → Outcome) (f' g' : List ℕ → List ℕ → Outcome) → (b ≡ true → Mode f f') → (b ≡ false → Mode g g')
    → Mode (λ m. pick b (f m) (g m)) (λ c t. pick b (f' c t) (g' c t))
either true f g f' g' p q = p refl
either false f g f' g' p q = q refl

module _ {suite : ℕ} {key nonce ad : List ℕ} {n : ℕ} (given : Given key nonce ad) (good : Good suite (length key) (length nonce) (length ad) n) where
  pub mode : Mode (sealed suite key nonce ad) (opened suite key nonce ad)
  unfolding sealed opened
  mode =
      let parts = key_parts given.key_bytes (key_is good) in
      either (leb suite 2) _ _ _ _
      (λ e. mode_i parts given.nonce_bytes (nonce_i good (leb-true suite 2 e)) given.ad_bytes)
      (λ e. mode_ii parts given.nonce_bytes (nonce_ii good (leb-false suite 2 e)) given.ad_bytes)

-- ---- the rows

module _ (k : Subkeys) (nonce ad s : List ℕ) where
  rows_i_lem : (call : List ℕ → List ℕ → Row) (m : List ℕ) → length (I.outcome call k nonce ad s m).rows ≡ blocks ad + blocks s + 1
  rows_i_lem call m =
      let a = auth_count k 32 96 ad in
      let b = crypt_count call k nonce s in
      simp length-append (omega arith)

  rows_sealing_ii : length (II.seal_ii k nonce ad s).rows ≡ blocks ad + 2 * blocks s + 1
  unfolding II.seal_ii
  rows_sealing_ii =
      let a = auth_count k 32 96 ad in
      let b = auth_count k 0 64 s in
      let c = keystream_count k (II.tag_row k nonce ad s).to nonce s in
      simp length-append (omega arith)

  rows_opening_ii : (tag : List ℕ) → length (II.crypted k tag nonce s) ≡ length s → length (II.open_ii k nonce ad s tag).rows ≡ blocks ad + 2 * blocks s + 1
  unfolding II.open_ii
  rows_opening_ii tag e =
      let a = auth_count k 32 96 ad in
      let b = auth_count k 0 64 (II.crypted k tag nonce s) in
      let c = keystream_count k tag nonce s in
      simp length-append (omega arith)

picked : (b : Bool) (f g : Outcome) (m n : ℕ) → (b ≡ true → length f.rows ≡ m) → (b ≡ false → length g.rows ≡ n)
    → length (pick b f g).rows ≡ pick b m n
picked true f g m n p q = p refl
picked false f g m n p q = q refl

pub rows_sealed : (suite : ℕ) (key nonce ad message : List ℕ) → length (sealed suite key nonce ad message).rows ≡ rows_for suite (length ad) (length message)
unfolding sealed I.seal_i
rows_sealed suite key nonce ad message =
    picked (leb suite 2) _ _ _ _ (λ e. rows_i_lem (expanded key) nonce ad message _ message) (λ e. rows_sealing_ii (expanded key) nonce ad message)

module _ {suite : ℕ} {key nonce ad cipher tag : List ℕ} (given : Given key nonce ad) (pc : Bytes cipher) (pt : Block tag)
    (good : Good suite (length key) (length nonce) (length ad) (length cipher)) where
  stays : leb suite 2 ≡ false → length (II.crypted (expanded key) tag nonce cipher) ≡ length cipher
  unfolding II.open_ii
  stays e =
      ((mode_ii (key_parts given.key_bytes (key_is good)) given.nonce_bytes (nonce_ii good (leb-false suite 2 e)) given.ad_bytes
      ).opened_like cipher tag pc pt).size

  pub rows_opened : length (opened suite key nonce ad cipher tag).rows ≡ rows_for suite (length ad) (length cipher)
  unfolding opened I.open_i
  rows_opened =
      picked (leb suite 2) _ _ _ _ (λ e. rows_i_lem (expanded key) nonce ad cipher _ (I.crypted (deciphered (expanded key)) (expanded key) nonce cipher))
      (λ e. rows_opening_ii (expanded key) nonce ad cipher tag (stays e))
