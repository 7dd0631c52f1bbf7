-- What the risk tables say of a sealing and of an opening: document 01, "Rows".
-- Assumes nothing.
use mathlib.Core.Path.{◌≡◌, refl, sym, ap, ◌∙◌}
use mathlib.Core.Bool.{Bool, true, false}
use mathlib.Core.Logic.{⊎_elim}
use mathlib.Core.List.{List, [], ◌∷◌, ◌++◌, map}
use Prim.Native.Nat.{ℕ}
use lib.Dec.{eqb}
use lib.ListN.{length, length-map}
use borrow.Author.Tests.{eq-eqb, eqb-true}
use Rattle.octets.specs.Octets.{Bytes, Block, pick, same}
use Rattle.octets.proofs.Tables.{lt_or_ge}
use Rattle.tweakey.specs.Tweakey.{expanded}
use Rattle.modes.specs.Rows.{Row, Outcome}
use Rattle.suites.specs.Suites.{key_length, nonce_length, refusal}
use Rattle.suites.proofs.Refusals.{good}
use Rattle.deoxys.specs.Entry.{Opening, sealed, opened, sealing, opening}
use Rattle.deoxys.proofs.Answers.{sealed_i, sealed_ii, opened_i, opened_ii}
use Rattle.promises.specs.Statements.{Given}
use Rattle.promises.proofs.Modes.{mode}
use Rattle.risk.specs.declared.Kind.{Kind}
use Rattle.risk.specs.declared.Kind.TheVariants.{Data, Message, Keystream}
use Rattle.risk.specs.declared.Label.{Label}
use Rattle.risk.specs.Labels.{block_labels, tag_label, labels, opening_labels, refused, risk_table, opening_table}
use Rattle.risk.specs.Tweaks.{tweak_of}
use Rattle.risk.specs.Calls.{deciphers, InStep}
use Rattle.risk.proofs.Labelled.{tweaks_in_step, labelled_i, labelled_ii, opening_labelled_i, opening_labelled_ii}

as_many : (rows : List Row) (names : List Label) (f : Label → List ℕ) → map (λ (r : Row). r.tweak) rows ≡ map f names → length rows ≡ length names
as_many rows names f e = sym (length-map rows (λ r. r.tweak)) ∙ ap length e ∙ length-map names f

module _ (suite : ℕ) (key nonce ad message : List ℕ) where
  -- row by row, in order, a sealing's rows are the calls that document 01 gives the labels
  pub rows_called :
      InStep (expanded key) (tweak_of suite nonce (sealed suite key nonce ad message).tag) (deciphers false suite)
      (sealed suite key nonce ad message).rows (labels suite (length ad) (length message))
  rows_called =
      ⊎_elim
      (λ h. rw (← sealed_ii suite key nonce ad message h) (labelled_ii suite key nonce ad message _ h refl))
      (λ h. rw (← sealed_i suite key nonce ad message h) (labelled_i suite key nonce ad message _ h))
      (lt_or_ge 2 suite)

  -- so their tweaks are the labels'
  pub rows_labelled :
      map (λ (r : Row). r.tweak) (sealed suite key nonce ad message).rows
      ≡ map (tweak_of suite nonce (sealed suite key nonce ad message).tag) (labels suite (length ad) (length message))
  rows_labelled = tweaks_in_step _ _ _ _ _ rows_called

  -- so there are as many of the ones as of the others
  pub rows_counted : length (sealed suite key nonce ad message).rows ≡ length (labels suite (length ad) (length message))
  rows_counted = as_many (sealed suite key nonce ad message).rows (labels suite (length ad) (length message)) _ rows_labelled

  -- and the count in the answer is the table's, refused sealings among them, where key and nonce fit
  pub answer_counted : length key ≡ key_length suite → length nonce ≡ nonce_length suite
      → (sealing suite key nonce ad message).answer.rows ≡ length (risk_table suite (length ad) (length message))
  unfolding sealing risk_table
  answer_counted k n = either (eqb (refused suite (length ad) (length message)) 0) refl
    where
      either : (b : Bool) → eqb (refused suite (length ad) (length message)) 0 ≡ b
          → (sealing suite key nonce ad message).answer.rows ≡ length (risk_table suite (length ad) (length message))
      either true e = rw (k, n, e) rows_counted
      either false e = rw (k, n, e)

either_way : (b : Bool) (p q : Opening) (n : ℕ) → p.answer.rows ≡ n → q.answer.rows ≡ n → (pick b p q).answer.rows ≡ n
either_way true p q n e f = e
either_way false p q n e f = f

-- an opening, of bytes, with the given tag, from which Deoxys-II takes the keystream
module _ (suite : ℕ) (key nonce ad cipher tag : List ℕ) (given : Given key nonce ad) (pc : Bytes cipher) (pt : Block tag) where
  -- where nothing refuses it, its rows too are the calls of its labels, row by row, in order
  module _ (allowed : refusal suite (length key) (length nonce) (length ad) (length cipher) ≡ 0) where
    as_long : length (opened suite key nonce ad cipher tag).text ≡ length cipher
    as_long = ((mode given (good _ _ _ _ _ allowed)).opened_like cipher tag pc pt).size

    pub opening_rows_called :
        InStep (expanded key) (tweak_of suite nonce tag) (deciphers true suite)
        (opened suite key nonce ad cipher tag).rows (opening_labels suite (length ad) (length cipher))
    opening_rows_called =
        ⊎_elim
        (λ h. let e = opened_ii suite key nonce ad cipher tag h in
        rw (← e) (opening_labelled_ii suite key nonce ad cipher tag h (ap (λ (o : Outcome). length o.text) e ∙ as_long)))
        (λ h. let e = opened_i suite key nonce ad cipher tag h in
        rw (← e) (opening_labelled_i suite key nonce ad cipher tag h (ap (λ (o : Outcome). length o.text) e ∙ as_long)))
        (lt_or_ge 2 suite)

    pub opening_rows_labelled :
        map (λ (r : Row). r.tweak) (opened suite key nonce ad cipher tag).rows
        ≡ map (tweak_of suite nonce tag) (opening_labels suite (length ad) (length cipher))
    opening_rows_labelled = tweaks_in_step _ _ _ _ _ opening_rows_called

    pub opening_rows_counted : length (opened suite key nonce ad cipher tag).rows ≡ length (opening_labels suite (length ad) (length cipher))
    opening_rows_counted =
        as_many (opened suite key nonce ad cipher tag).rows (opening_labels suite (length ad) (length cipher)) _ opening_rows_labelled

  -- and the count in the answer, 0 and 7 alike, is its table's, refused openings among them, where key and nonce fit
  pub opening_answer_counted : length key ≡ key_length suite → length nonce ≡ nonce_length suite
      → (opening suite key nonce ad cipher tag).answer.rows ≡ length (opening_table suite (length ad) (length cipher))
  unfolding opening opening_table
  opening_answer_counted k n = either (eqb (refused suite (length ad) (length cipher)) 0) refl
    where
      either : (b : Bool) → eqb (refused suite (length ad) (length cipher)) 0 ≡ b
          → (opening suite key nonce ad cipher tag).answer.rows ≡ length (opening_table suite (length ad) (length cipher))
      either true e =
          let counted = opening_rows_counted (rw (k, n) (eqb-true _ _ e)) in
          rw (k, n, e, eq-eqb _ _ pt.size) (either_way (same tag (opened suite key nonce ad cipher tag).tag) _ _ _ counted counted)
      either false e = rw (k, n, e)

-- the worked instance: data 0; message 0 to 8; tag; keystream 0 to 8
abbrev whole : Kind → ℕ → Label
whole kind i = record { kind = kind; number = i; partial = false }

abbrev nine : List ℕ
nine = 0 ∷ 1 ∷ 2 ∷ 3 ∷ 4 ∷ 5 ∷ 6 ∷ 7 ∷ 8 ∷ []

pub twenty : labels 3 16 144 ≡ whole Data 0 ∷ (map (whole Message) nine ++ (tag_label 3 144 ∷ map (whole Keystream) nine))
unfolding labels block_labels
twenty = refl

-- and of an opening: data 0; keystream 0 to 8; message 0 to 8; tag
pub twenty_opening : opening_labels 3 16 144 ≡ whole Data 0 ∷ (map (whole Keystream) nine ++ (map (whole Message) nine ++ (tag_label 3 144 ∷ [])))
unfolding opening_labels block_labels
twenty_opening = refl
