-- The rows of a sealing, and of an opening, are those that its labels name, in their order: each row is the call of its label.
-- Assumes nothing.
use mathlib.Core.Path.{◌≡◌, refl, ap, ◌∙◌}
use mathlib.Core.Bool.{Bool, true, false, not}
use mathlib.Core.List.{List, [], ◌∷◌, ◌++◌, map}
use Prim.Native.Nat.{ℕ, zero, suc, ◌+◌, ◌-◌, ◌*◌, ◌/◌, ◌%◌, ◌≤◌, ◌<◌}
use native.Mathlib.Nat.{sub-zero}
use native.Mathlib.Omega.{arith}
use lib.Dec.{eqb}
use lib.ListN.{length, drop, length-drop}
use borrow.Author.Tests.{lt-ltb, le-ltb, le-leb, lt-leb}
use Rattle.octets.specs.Octets.{pick, blocks_of, padded, zero_block}
use Rattle.tweakey.specs.Tweakey.{expanded}
use Rattle.tweakey.specs.declared.Subkeys.{Subkeys}
use Rattle.tweaks.specs.Tweaks.{numbered, nonce_tweak, keystream_tweak}
use Rattle.modes.specs.Rows.{Row, enciphered, deciphered, Outcome, partial_row, text_rows, auth_rows, data_rows}
use Rattle.suites.specs.Suites.{is_deoxys_i}
use Rattle.risk.specs.declared.Kind.{Kind}
use Rattle.risk.specs.declared.Kind.TheVariants.{Data, Message, Keystream}
use Rattle.risk.specs.declared.Label.{Label}
use Rattle.risk.specs.Labels.{block_labels, text_labels, tag_label, keystream_labels, labels, opening_labels}
use Rattle.risk.specs.Tweaks.{tweak_of}
use Rattle.risk.specs.Calls.{deciphers, InStep}
use Rattle.deoxys_i.specs.Direction.{direction}
use Rattle.deoxys_i.specs.DeoxysI as I
use Rattle.deoxys_ii.specs.DeoxysII as II

-- a call has the tweak and the block that it is given, either way
tweak_is : (way : Bool) (k : Subkeys) (t p : List ℕ) → (direction way k t p).tweak ≡ t
tweak_is true k t p = refl
tweak_is false k t p = refl

again : (way : Bool) (k : Subkeys) (t p : List ℕ) → direction way k t p ≡ direction way k t (direction way k t p).from
again true k t p = refl
again false k t p = refl

module _ (k : Subkeys) (f : Label → List ℕ) (d : Label → Bool) where
  both : (p q : List Row) (ls ms : List Label) → InStep k f d p ls → InStep k f d q ms → InStep k f d (p ++ q) (ls ++ ms)
  unfolding InStep
  both [] q [] ms s t = t
  both [] q (l ∷ ls) ms s t = absurd s
  both (r ∷ p) q [] ms s t = absurd s
  both (r ∷ p) q (l ∷ ls) ms s t = (s.0, both p q ls ms s.1 t)

  one : (r : Row) (l : Label) → d l ≡ false → r ≡ direction false k (f l) r.from → InStep k f d (r ∷ []) (l ∷ [])
  unfolding InStep
  one r l w e = rw w (e, tt)

  -- so each row has the tweak of its label
  pub tweaks_in_step : (rows : List Row) (names : List Label) → InStep k f d rows names → map (λ (r : Row). r.tweak) rows ≡ map f names
  unfolding InStep
  tweaks_in_step [] [] s = refl
  tweaks_in_step [] (l ∷ names) s = absurd s
  tweaks_in_step (r ∷ rows) [] s = absurd s
  tweaks_in_step (r ∷ rows) (l ∷ names) s =
      let e : r.tweak ≡ f l = ap (λ (x : Row). x.tweak) s.0 ∙ tweak_is (d l) k (f l) r.from in
      rw (e, tweaks_in_step rows names s.1)

-- ---- one text

abbrev label : Kind → ℕ → Bool → Label
label kind i partial = record { kind = kind; number = i; partial = partial }

-- what the labels of a kind have for tweaks, and which way the calls of full blocks go; those of partial blocks encipher
record Gives (f : Label → List ℕ) (d : Label → Bool) (kind : Kind) (full part : ℕ → List ℕ) (way : Bool) : Type 0 where
  whole : (i : ℕ) → f (label kind i false) ≡ full i
  partial : (i : ℕ) → f (label kind i true) ≡ part i
  whole_way : (i : ℕ) → d (label kind i false) ≡ way
  partial_way : (i : ℕ) → d (label kind i true) ≡ false

module _ {f : Label → List ℕ} {d : Label → Bool} {kind : Kind} {full part : ℕ → List ℕ} {way : Bool} (g : Gives f d kind full part way) (k : Subkeys)
    (bytes i : ℕ) where
  turn : (p : List ℕ) (rest : List Row) → 16 * i + 16 ≤ bytes → InStep k f d rest (block_labels kind bytes (blocks_of bytes - (i + 1)) (i + 1))
      → InStep k f d (direction way k (full i) p ∷ rest) (block_labels kind bytes (blocks_of bytes - i) i)
  unfolding block_labels InStep
  turn p rest h e =
      let z : blocks_of bytes - i ≡ suc (blocks_of bytes - (i + 1)) = omega arith in
      rw (z, le-ltb _ _ h, g.whole i, g.whole_way i) (again way k (full i) p, e)

  ending : (call : List ℕ → Row) (s : List ℕ) → ((p : List ℕ) → call p ≡ direction false k (part i) (call p).from) → length s ≡ bytes - 16 * i
      → 16 * i ≤ bytes → bytes < 16 * i + 16 → InStep k f d (partial_row call s) (block_labels kind bytes (blocks_of bytes - i) i)
  unfolding block_labels InStep
  ending call [] is e l h =
      let z : blocks_of bytes - i ≡ 0 = omega arith in
      rw z tt
  ending call (x ∷ s) is e l h =
      let z : blocks_of bytes - i ≡ 1 = omega arith in
      rw (z, lt-ltb _ _ h, g.partial i, g.partial_way i) (is (x ∷ s), tt)

module _ {f : Label → List ℕ} {d : Label → Bool} {kind : Kind} (k : Subkeys) where
  text_calls : (byte last : ℕ) (s : List ℕ) → Gives f d kind (numbered byte) (numbered last) false → (n i : ℕ) → 16 * (n + i) ≤ length s
      → length s < 16 * (n + i) + 16 → InStep k f d (text_rows k byte last s n i) (block_labels kind (length s) (blocks_of (length s) - i) i)
  unfolding text_rows
  text_calls byte last s g zero i l h =
      ending g k _ i (λ p. enciphered k (numbered last i) (padded p)) (drop (16 * i) s) (λ p. refl) (length-drop (16 * i) s) (omega arith) (omega arith)
  text_calls byte last s g (suc n) i l h = turn g k _ i _ _ (omega arith) (text_calls byte last s g n (i + 1) (omega arith) (omega arith))

  -- Auth, over the data and in Deoxys-II over the message
  auth_calls : (byte last : ℕ) (s : List ℕ) → Gives f d kind (numbered byte) (numbered last) false
      → InStep k f d (auth_rows k byte last s) (text_labels kind (length s))
  auth_calls byte last s g = rw sub-zero at (text_calls byte last s g (length s / 16) 0 (omega arith) (omega arith))

  module _ (way : Bool) (nonce : List ℕ) (g : Gives f d kind (nonce_tweak 0 nonce) (nonce_tweak 4 nonce) way) where
    message_calls : (bytes n i : ℕ) (s : List ℕ) → length s ≡ bytes - 16 * i → 16 * (n + i) ≤ bytes → bytes < 16 * (n + i) + 16
        → InStep k f d (I.message_rows (direction way k) k nonce n i s) (block_labels kind bytes (blocks_of bytes - i) i)
    unfolding I.message_rows
    message_calls bytes zero i s e l h =
        ending g k bytes i (λ p. enciphered k (nonce_tweak 4 nonce i) zero_block) s (λ p. refl) e (omega arith) (omega arith)
    message_calls bytes (suc n) i s e l h =
        let c : length (drop 16 s) ≡ bytes - 16 * (i + 1) = length-drop 16 s ∙ omega arith in
        turn g k bytes i _ _ (omega arith) (message_calls bytes n (i + 1) (drop 16 s) c (omega arith) (omega arith))

    -- Deoxys-I, the message
    crypt_calls : (s : List ℕ) → InStep k f d (I.crypt_rows (direction way k) k nonce s) (text_labels kind (length s))
    crypt_calls s = rw sub-zero at (message_calls (length s) (length s / 16) 0 s (omega arith) (omega arith) (omega arith))

-- Deoxys-II, the keystream
module _ (f : Label → List ℕ) (d : Label → Bool) (k : Subkeys) (tag nonce : List ℕ) (g : (j : ℕ) (b : Bool) → f (label Keystream j b) ≡ keystream_tweak tag j)
    (w : (j : ℕ) (b : Bool) → d (label Keystream j b) ≡ false) where
  keystream_calls : (bytes n j : ℕ) → InStep k f d (II.keystream_from k tag nonce n j) (block_labels Keystream bytes n j)
  unfolding II.keystream_from block_labels InStep
  keystream_calls bytes zero j = tt
  keystream_calls bytes (suc n) j = rw (g j _, w j _) (refl, keystream_calls bytes n (j + 1))

-- ---- a sealing, an opening

tag_kind : (whole : Bool) → ◌≡◌ {A = ℕ} (pick whole 1 5) (pick (not whole) 5 1)
tag_kind true = refl
tag_kind false = refl

module _ (suite : ℕ) (key nonce ad text tag : List ℕ) where
  abbrev k : Subkeys
  k = expanded key

  unfoldable f : Label → List ℕ
  f = tweak_of suite nonce tag

  -- the labels are of a text of that length
  abbrev Labelled : Bool → (ℕ → ℕ → ℕ → List Label) → Outcome → Type 0
  Labelled opening labelsOf o = InStep k (tweak_of suite nonce tag) (deciphers opening suite) o.rows (labelsOf suite (length ad) (length text))

  module _ (opening : Bool) where
    abbrev d : Label → Bool
    d = deciphers opening suite

    data_calls : InStep k f d (data_rows k ad) (text_labels Data (length ad))
    unfolding f tweak_of
    data_calls = auth_calls k 0x20 0x60 ad (record { whole = λ i. refl; partial = λ i. refl; whole_way = λ i. refl; partial_way = λ i. refl })

    -- the calls on full blocks of the message go that way
    module _ (way : Bool) (w : pick opening (is_deoxys_i suite) false ≡ way) (h : suite ≤ 2) where
      on_message_i : Gives f d Message (nonce_tweak 0 nonce) (nonce_tweak 4 nonce) way
      unfolding f tweak_of
      on_message_i = record { whole = λ i. rw (le-leb _ _ h); partial = λ i. rw (le-leb _ _ h); whole_way = λ i. w; partial_way = λ i. refl }

      on_tag_i : (message : List ℕ) → (I.tag_row k nonce message).tweak ≡ f (tag_label suite (length message))
      unfolding f tweak_of
      on_tag_i message =
          rw (le-leb _ _ h, le-leb _ _ h) (ap (λ (kind : ℕ). nonce_tweak kind nonce (blocks_of (length message))) (tag_kind (eqb (length message % 16) 0)))

      -- the tag is of a message as long as the text
      tag_i_lem : (message : List ℕ) → length message ≡ length text → InStep k f d (I.tag_row k nonce message ∷ []) (tag_label suite (length text) ∷ [])
      tag_i_lem message e =
          rw (← e)
          (one k f d (I.tag_row k nonce message) (tag_label suite (length message)) (rw (le-leb _ _ h))
          (ap (λ (t : List ℕ). direction false k t (I.tag_row k nonce message).from) (on_tag_i message)))

      outcome_i : (message : List ℕ) → length message ≡ length text → Labelled opening labels (I.outcome (direction way k) k nonce ad text message)
      unfolding labels f
      outcome_i message e =
          let none : keystream_labels suite (length text) ≡ [] = rw (le-leb _ _ h) in
          rw none (both k f d _ _ _ _ data_calls (both k f d _ _ _ _ (crypt_calls k way nonce on_message_i text) (tag_i_lem message e)))

    module _ (w : pick opening (is_deoxys_i suite) false ≡ false) (h : 2 < suite) where
      message_ii : (message : List ℕ) → length message ≡ length text → InStep k f d (II.message_rows k message) (text_labels Message (length text))
      unfolding f tweak_of
      message_ii message e =
          rw (← e)
          (auth_calls k 0x00 0x40 message
          (record { whole = λ i. rw (lt-leb _ _ h); partial = λ i. rw (lt-leb _ _ h); whole_way = λ i. w; partial_way = λ i. refl }))

      tag_ii_lem : (message : List ℕ) → InStep k f d (II.tag_row k nonce ad message ∷ []) (tag_label suite (length text) ∷ [])
      unfolding f tweak_of
      tag_ii_lem message = one k f d (II.tag_row k nonce ad message) (tag_label suite (length text)) (rw (lt-leb _ _ h)) (rw (lt-leb _ _ h, lt-leb _ _ h))

      keystream_ii : (from : List ℕ) → tag ≡ from → InStep k f d (II.keystream_rows k from nonce text) (keystream_labels suite (length text))
      unfolding f tweak_of
      keystream_ii from e =
          rw (lt-leb _ _ h, ← e)
          (keystream_calls f d k tag nonce (λ j b. rw (lt-leb _ _ h)) (λ j b. refl) (length text) (blocks_of (length text)) 0)

  module _ (h : suite ≤ 2) where
    pub labelled_i : Labelled false labels (I.seal_i k nonce ad text)
    unfolding I.seal_i
    labelled_i = outcome_i false false refl h text refl

    -- Deoxys-I opens in the order in which it seals
    alike_i : opening_labels suite (length ad) (length text) ≡ labels suite (length ad) (length text)
    unfolding labels opening_labels
    alike_i = rw (le-leb _ _ h)

    pub opening_labelled_i : length (I.open_i k nonce ad text).text ≡ length text → Labelled true opening_labels (I.open_i k nonce ad text)
    unfolding I.open_i
    opening_labelled_i e = rw alike_i (outcome_i true true (le-leb _ _ h) h (I.crypted (deciphered k) k nonce text) e)

  module _ (h : 2 < suite) where
    -- the tag is the one that sealing computes
    pub labelled_ii : tag ≡ (II.seal_ii k nonce ad text).tag → Labelled false labels (II.seal_ii k nonce ad text)
    unfolding II.seal_ii labels f
    labelled_ii e =
        let d = deciphers false suite in
        let tag-on = both k f d _ _ _ _ (tag_ii_lem false refl h text) (keystream_ii false refl h _ e) in
        both k f d _ _ _ _ (data_calls false) (both k f d _ _ _ _ (message_ii false refl h text refl) tag-on)

    -- the tag is the given one
    pub opening_labelled_ii : length (II.open_ii k nonce ad text tag).text ≡ length text → Labelled true opening_labels (II.open_ii k nonce ad text tag)
    unfolding II.open_ii opening_labels f
    opening_labelled_ii e =
        let d = deciphers true suite in
        let w : is_deoxys_i suite ≡ false = lt-leb _ _ h in
        let message = II.crypted k tag nonce text in
        let message-on = both k f d _ _ _ _ (message_ii true w h message e) (tag_ii_lem true w h message) in
        both k f d _ _ _ _ (data_calls true) (both k f d _ _ _ _ (keystream_ii true w h tag refl) message-on)
