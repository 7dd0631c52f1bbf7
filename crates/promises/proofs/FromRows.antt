-- Sealing and opening are made of their rows: the proofs of the statements of specs/MadeOfRows.
-- Assumes nothing.
use mathlib.Core.Path.{◌≡◌, refl, ap}
use mathlib.Core.Bool.{Bool, true, false}
use mathlib.Core.List.{List, [], ◌∷◌, ◌++◌}
use Prim.Native.Nat.{ℕ, zero, suc, ◌+◌, ◌*◌, ◌/◌, ◌≤◌}
use native.Mathlib.Omega.{arith}
use lib.Dec.{leb}
use lib.ListN.{length, drop, length-append, drop_of_length-le}
use lib.Seq.{take_at, drop_at, take_all}
use Rattle.octets.specs.Octets.{pick, ◌⊕◌, zero_block, padded}
use Rattle.tweakey.specs.Tweakey.{expanded}
use Rattle.tweakey.specs.declared.Subkeys.{Subkeys}
use Rattle.tweaks.specs.Tweaks.{numbered, nonce_tweak}
use Rattle.modes.specs.Rows.{Row, enciphered, deciphered, partial_row, text_rows, data_rows, blocks, absorbed, Outcome}
use Rattle.deoxys_i.specs.DeoxysI as I
use Rattle.deoxys_ii.specs.DeoxysII as II
use Rattle.modes.proofs.Counts.{auth_count}
use Rattle.deoxys_i.proofs.Counts.{crypt_count}
use Rattle.deoxys_ii.proofs.Counts.{keystream_count}
use Rattle.deoxys.specs.Entry.{Opening, sealed, opened}
use Rattle.promises.specs.MadeOfRows.{
  Made,
  next,
  read_i,
  read_seal_ii,
  read_open_ii,
  read_seal,
  read_open,
  Call,
  Calls,
  Whole,
  MadeOf,
  MadeOfRowsOfSeal,
  MadeOfRowsOfOpen,
}
use Rattle.promises.proofs.Views.{answered_0}
use Rattle.promises.proofs.InOrder.{refused_in_order_of_seal}

-- ---- every row is a call

module _ {k : Subkeys} where
  joined : {a b : List Row} → Calls k a → Calls k b → Calls k (a ++ b)
  joined Calls.no_more q = q
  joined (Calls.one_more c p) q = Calls.one_more c (joined p q)

  one : {r : Row} → Call k r → Calls k (r ∷ [])
  one c = Calls.one_more c Calls.no_more

  partial : (call : List ℕ → Row) → ((b : List ℕ) → Call k (call b)) → (s : List ℕ) → Calls k (partial_row call s)
  partial call c [] = Calls.no_more
  partial call c (x ∷ s) = one (c (x ∷ s))

  over_text : (full part : ℕ) (s : List ℕ) (n i : ℕ) → Calls k (text_rows k full part s n i)
  unfolding text_rows
  over_text full part s zero i = partial (λ b. enciphered k (numbered part i) (padded b)) (λ b. Call.enciphers refl) (drop (16 * i) s)
  over_text full part s (suc n) i = Calls.one_more (Call.enciphers refl) (over_text full part s n (i + 1))

  over_message : (call : List ℕ → List ℕ → Row) → ((t b : List ℕ) → Call k (call t b)) → (nonce : List ℕ) (n i : ℕ) (s : List ℕ)
      → Calls k (I.message_rows call k nonce n i s)
  unfolding I.message_rows
  over_message call c nonce zero i s = partial (λ p. enciphered k (nonce_tweak 4 nonce i) zero_block) (λ b. Call.enciphers refl) s
  over_message call c nonce (suc n) i s = Calls.one_more (c _ _) (over_message call c nonce n (i + 1) (drop 16 s))

  keystream : (tag nonce : List ℕ) (n j : ℕ) → Calls k (II.keystream_from k tag nonce n j)
  unfolding II.keystream_from
  keystream tag nonce zero j = Calls.no_more
  keystream tag nonce (suc n) j = Calls.one_more (Call.enciphers refl) (keystream tag nonce n (j + 1))

-- ---- rows put together are read apart again

module _ {k : Subkeys} {rows : List Row} {text tag : List ℕ} where
  taken : (a b : List Row) (n : ℕ) (make : List Row → List Row → Made) → length a ≡ n → Whole k rows (make a b) text tag
      → Whole k rows (next n (a ++ b) make) text tag
  unfolding next
  taken a b n make e w = rw (take_at a b n e, drop_at a b n e) w

  taken_all : (a : List Row) (n : ℕ) (make : List Row → List Row → Made) → length a ≤ n → Whole k rows (make a []) text tag
      → Whole k rows (next n a make) text tag
  unfolding next
  taken_all a n make l w = rw (take_all n a l, drop_of_length-le a l) w

module _ {k : Subkeys} (ad s : List ℕ) (a b : List Row) (ea : length a ≡ blocks ad) (eb : length b ≡ blocks s) (r : Row) where
  read_i_lem : (message : List ℕ → List ℕ) → Calls k (a ++ (b ++ (r ∷ []))) → r.from ≡ I.checksum (message (I.text_of (length s / 16) b s))
      → MadeOf k (a ++ (b ++ (r ∷ []))) (read_i ad s message) (I.text_of (length s / 16) b s) (absorbed zero_block a ⊕ r.to)
  read_i_lem message calls e =
      let l : length (a ++ (b ++ (r ∷ []))) ≡ length a + (length b + 1) = simp length-append in
      taken a _ _ _ ea (taken b _ _ _ eb
      (record { calls = calls; makes_text = refl; makes_tag = refl; tag_row_given = e; none_missing = omega arith; none_unused = refl }))

  module _ (c : List Row) where
    read_seal_ii_lem : length c ≡ blocks s → Calls k (a ++ (b ++ (r ∷ c))) → r.from ≡ absorbed (absorbed zero_block a) b
        → MadeOf k (a ++ (b ++ (r ∷ c))) (read_seal_ii ad s) (s ⊕ II.given c) r.to
    read_seal_ii_lem ec calls e =
        let l : length (a ++ (b ++ (r ∷ c))) ≡ length a + (length b + suc (length c)) = simp length-append in
        taken a _ _ _ ea (taken b _ _ _ eb (taken_all c _ _ (omega (arith, ec))
        (record { calls = calls; makes_text = refl; makes_tag = refl; tag_row_given = e; none_missing = omega arith; none_unused = refl })))

    read_open_ii_lem : length c ≡ blocks (s ⊕ II.given b) → Calls k (a ++ (b ++ (c ++ (r ∷ [])))) → r.from ≡ absorbed (absorbed zero_block a) c
        → MadeOf k (a ++ (b ++ (c ++ (r ∷ [])))) (read_open_ii ad s) (s ⊕ II.given b) r.to
    read_open_ii_lem ec calls e =
        let l : length (a ++ (b ++ (c ++ (r ∷ [])))) ≡ length a + (length b + (length c + 1)) = simp length-append in
        taken a _ _ _ ea (taken b _ _ _ (omega (arith, eb)) (taken c _ _ _ ec
        (record { calls = calls; makes_text = refl; makes_tag = refl; tag_row_given = e; none_missing = omega arith; none_unused = refl })))

-- ---- the modes

abbrev OutcomeMade : Subkeys → Outcome → (List Row → Made) → Type 0
OutcomeMade k o read = MadeOf k o.rows read o.text o.tag

module _ (k : Subkeys) (nonce ad s : List ℕ) where
  made_i : (call : List ℕ → List ℕ → Row) → ((t b : List ℕ) → Call k (call t b)) → (message : List ℕ → List ℕ)
      → OutcomeMade k (I.outcome call k nonce ad s (message (I.crypted call k nonce s))) (read_i ad s message)
  made_i call c message =
      read_i_lem ad s (data_rows k ad) (I.crypt_rows call k nonce s) (auth_count k 32 96 ad) (crypt_count call k nonce s) _ message
      (joined (over_text 32 96 ad _ 0) (joined (over_message call c nonce _ 0 s) (one (Call.enciphers refl)))) refl

  made_seal_ii : OutcomeMade k (II.seal_ii k nonce ad s) (read_seal_ii ad s)
  unfolding II.seal_ii
  made_seal_ii =
      let t = II.tag_row k nonce ad s in
      read_seal_ii_lem ad s (data_rows k ad) (II.message_rows k s) (auth_count k 32 96 ad) (auth_count k 0 64 s) t
      (II.keystream_rows k t.to nonce s) (keystream_count k t.to nonce s)
      (joined (over_text 32 96 ad _ 0) (joined (over_text 0 64 s _ 0) (Calls.one_more (Call.enciphers refl) (keystream _ nonce _ 0)))) refl

  made_open_ii : (tag : List ℕ) → OutcomeMade k (II.open_ii k nonce ad s tag) (read_open_ii ad s)
  unfolding II.open_ii
  made_open_ii tag =
      let m = II.crypted k tag nonce s in
      read_open_ii_lem ad s (data_rows k ad) (II.keystream_rows k tag nonce s) (auth_count k 32 96 ad) (keystream_count k tag nonce s)
      (II.tag_row k nonce ad m) (II.message_rows k m) (auth_count k 0 64 m)
      (joined (over_text 32 96 ad _ 0) (joined (keystream tag nonce _ 0) (joined (over_text 0 64 m _ 0) (one (Call.enciphers refl))))) refl

-- ---- the suites

either : {k : Subkeys} (b : Bool) (f g : Outcome) (readF readG : List Row → Made) → OutcomeMade k f readF → OutcomeMade k g readG
    → OutcomeMade k (pick b f g) (λ rows. pick b (readF rows) (readG rows))
either true f g readF readG p q = p
either false f g readF readG p q = q

module _ (suite : ℕ) (key nonce ad s : List ℕ) where
  sealed_made : OutcomeMade (expanded key) (sealed suite key nonce ad s) (read_seal suite ad s)
  unfolding sealed read_seal I.seal_i
  sealed_made =
      let k = expanded key in
      either (leb suite 2) _ _ (read_i ad s (λ text. s)) (read_seal_ii ad s)
      (made_i k nonce ad s (enciphered k) (λ t b. Call.enciphers refl) (λ text. s)) (made_seal_ii k nonce ad s)

  opened_made : (tag : List ℕ) → OutcomeMade (expanded key) (opened suite key nonce ad s tag) (read_open suite ad s)
  unfolding opened read_open I.open_i
  opened_made tag =
      let k = expanded key in
      either (leb suite 2) _ _ (read_i ad s (λ text. text)) (read_open_ii ad s)
      (made_i k nonce ad s (deciphered k) (λ t b. Call.deciphers refl) (λ text. text)) (made_open_ii k nonce ad s tag)

-- ---- the statements

as_answered : {k : Subkeys} {rows : List Row} {made : Made} {text text' tag tag' : List ℕ} → Whole k rows made text tag
    → text' ≡ text → tag' ≡ tag → Whole k rows made text' tag'
as_answered m e f = rw (e, f) m

pub made_of_rows_of_seal : MadeOfRowsOfSeal
made_of_rows_of_seal suite key nonce ad message outcome a z =
    let left = (refused_in_order_of_seal suite key nonce ad message outcome a).done z in
    as_answered (sealed_made suite key nonce ad message) left.buffer_is left.tag_is

pub made_of_rows_of_open : MadeOfRowsOfOpen
made_of_rows_of_open suite key nonce ad cipher tag outcome o = (
  λ z. let a = answered_0 suite key nonce ad cipher tag outcome o z in
      as_answered (opened_made suite key nonce ad cipher tag) (ap (λ (x : Opening). x.buffer) a.is) a.right,
  λ z. opened_made suite key nonce ad cipher tag,
)
