-- The proofs of the statements of specs/Statements.
-- Assumes nothing.
use mathlib.Core.Path.{◌≡◌, refl, sym, ap, ◌∙◌, subst}
use mathlib.Core.List.{List}
use Prim.Native.Nat.{ℕ}
use lib.ListN.{length}
use Rattle.octets.specs.Octets.{Bytes, Block, same}
use Rattle.octets.proofs.Sameness.{same_refl}
use Rattle.suites.specs.Suites.{refusal}
use Rattle.deoxys.specs.Entry.{Sealing, Opening, sealed, opened, OpenAllows}
use Rattle.suites.proofs.Refusals.{good}
use Rattle.deoxys.proofs.Answers.{seal_done, open_done}
use Rattle.promises.specs.Statements.{
  Given,
  Seals,
  Source,
  AcceptsExactly,
  LeavesTheMessage,
  OnlyOne,
  KeysAlike,
  RefusedAlike,
  RoundTrip,
  CountsTheListOfSeal,
  CountsTheListOfOpen,
  rows_for,
  RowsCountedSealing,
  RowsCountedOpening,
  OneOutcomeOfSeal,
  OneOutcomeOfOpen,
}
use Rattle.promises.proofs.InOrder.{refused_in_order_of_seal, refused_in_order_of_open}
use Rattle.promises.proofs.Undoing.{Mode}
use Rattle.promises.proofs.Modes.{mode, rows_sealed, rows_opened}
use Rattle.promises.proofs.Views.{number, SealView, seal_view, OpenView, open_view, numbers, Accepted, answered_0, answered_7}

-- ---- what a message that seals says

module _ {suite : ℕ} {key nonce ad message cipher tag : List ℕ} (s : Seals suite key nonce ad message cipher tag) where
  -- nothing refuses it, and ciphertext and tag are the mode's
  record Work : Type 0 where
    allowed : number suite key nonce ad message ≡ 0
    cipher_is : (sealed suite key nonce ad message).text ≡ cipher
    tag_is : (sealed suite key nonce ad message).tag ≡ tag

  work : Work
  work = by (seal_view suite key nonce ad message)
    where
      by : SealView suite key nonce ad message → Work
      by (SealView.refused h e) = absurd (h (sym (ap (λ (o : Sealing). o.answer.number) e) ∙ s.answers))
      by (SealView.done h e) = record {
        allowed = h;
        cipher_is = sym (ap (λ (o : Sealing). o.buffer) e) ∙ s.gives_cipher;
        tag_is = sym (ap (λ (o : Sealing). o.answer.tag) e) ∙ s.gives_tag;
      }

module _ {suite : ℕ} {key nonce ad message cipher tag : List ℕ} (given : Given key nonce ad) (pm : Bytes message)
    (s : Seals suite key nonce ad message cipher tag) where
  the_mode : Mode (sealed suite key nonce ad) (opened suite key nonce ad)
  the_mode = mode given (good _ _ _ _ _ (work s).allowed)

  -- the ciphertext is as long, so that nothing refuses it either; the tag is a block
  same_length : length cipher ≡ length message
  same_length = ap length (sym (work s).cipher_is) ∙ (the_mode.sealed_like message pm).size

  cipher_allowed : number suite key nonce ad cipher ≡ 0
  cipher_allowed = ap (λ (n : ℕ). refusal suite (length key) (length nonce) (length ad) n) same_length ∙ (work s).allowed

  tag_is_block : Block tag
  tag_is_block = subst Block (work s).tag_is (the_mode.tag_block message pm)

  -- and opening it recovers the message and computes this tag
  recovers : (opened suite key nonce ad cipher tag).text ≡ message
  recovers = rw (← (work s).cipher_is, ← (work s).tag_is) (the_mode.gives_back message pm)

  computes : (opened suite key nonce ad cipher tag).tag ≡ tag
  computes = rw (← (work s).cipher_is, ← (work s).tag_is) (the_mode.same_tag message pm)

-- a sealed message is accepted, and left
module _ (suite : ℕ) (key nonce ad cipher tag : List ℕ) (outcome : Opening) (o : OpenAllows suite key nonce ad cipher tag outcome) where
  module _ {message : List ℕ} (given : Given key nonce ad) (pm : Bytes message) (s : Seals suite key nonce ad message cipher tag) where
    sealed_is : outcome ≡ record {
      answer = record { number = 0; rows = length (opened suite key nonce ad cipher tag).rows };
      buffer = (opened suite key nonce ad cipher tag).text;
    }
    sealed_is =
        o ∙ sym (open_done suite key nonce ad cipher tag (cipher_allowed given pm s) (tag_is_block given pm s).size
        (ap (same tag) (computes given pm s) ∙ same_refl tag))

-- ---- the promises

pub accepts_exactly : AcceptsExactly
accepts_exactly suite key nonce ad cipher tag outcome given pc pt o =
    (λ z. source (answered_0 suite key nonce ad cipher tag outcome o z), λ f. numbers (sealed_is suite key nonce ad cipher tag outcome o given f.message_bytes f.seals))
  where
    source : Accepted suite key nonce ad cipher tag outcome o → Source suite key nonce ad cipher tag
    source a =
        let block : Block tag = record { size = a.tag_length; bytes = pt } in
        let m = mode given (good _ _ _ _ _ a.allowed) in
        let like = m.opened_like cipher tag pc block in
        let still : number suite key nonce ad (opened suite key nonce ad cipher tag).text ≡ 0 =
        ap (λ (n : ℕ). refusal suite (length key) (length nonce) (length ad) n) like.size ∙ a.allowed in
        let e = sym (seal_done suite key nonce ad (opened suite key nonce ad cipher tag).text still) in
        record {
          message = (opened suite key nonce ad cipher tag).text;
          message_bytes = like.bytes;
          seals = record {
            answers = ap (λ (x : Sealing). x.answer.number) e;
            gives_cipher = ap (λ (x : Sealing). x.buffer) e ∙ m.remakes cipher tag pc block (sym a.right);
            gives_tag = ap (λ (x : Sealing). x.answer.tag) e ∙ m.remakes_tag cipher tag pc block (sym a.right);
          };
        }

pub leaves_the_message : LeavesTheMessage
leaves_the_message suite key nonce ad message cipher tag outcome given pm o s =
    ap (λ (x : Opening). x.buffer) (sealed_is suite key nonce ad cipher tag outcome o given pm s) ∙ recovers given pm s

pub only_one : OnlyOne
only_one suite key nonce ad message message' cipher tag given pm pm' s s' = sym (recovers given pm s) ∙ recovers given pm' s'

pub refused_alike : RefusedAlike
refused_alike suite key key' nonce nonce' ad ad' cipher cipher' tag tag' outcome outcome' given given' pc pc' pt pt' la lc o o' z z' =
    let w = answered_7 suite key nonce ad cipher tag outcome o z in
    let w' = answered_7 suite key' nonce' ad' cipher' tag' outcome' o' z' in
    let r = rows_opened given pc (record { size = w.tag_length; bytes = pt }) (good _ _ _ _ _ w.allowed) in
    let r' = rows_opened given' pc' (record { size = w'.tag_length; bytes = pt' }) (good _ _ _ _ _ w'.allowed) in
    w.is ∙ rw (r, la, lc) (sym (w'.is ∙ rw r'))

pub keys_alike : KeysAlike
keys_alike suite key key' nonce ad cipher tag outcome outcome' given given' pc pt lk o o' none none' =
    by (open_view suite key nonce ad cipher tag) (open_view suite key' nonce ad cipher tag)
  where
    numbers_alike : number suite key nonce ad cipher ≡ number suite key' nonce ad cipher
    numbers_alike = ap (λ (n : ℕ). refusal suite n (length nonce) (length ad) (length cipher)) lk

    never : outcome.answer.number ≡ 0 → ⊥
    never z = none ((accepts_exactly suite key nonce ad cipher tag outcome given pc pt o).0 z)

    never' : outcome'.answer.number ≡ 0 → ⊥
    never' z = none' ((accepts_exactly suite key' nonce ad cipher tag outcome' given' pc pt o').0 z)

    by : OpenView suite key nonce ad cipher tag → OpenView suite key' nonce ad cipher tag → outcome ≡ outcome'
    by (OpenView.refused h e) (OpenView.refused h' e') = o ∙ e ∙ rw numbers_alike (sym (o' ∙ e'))
    by (OpenView.refused h e) (OpenView.wrong_length h' l' e') = absurd (h (numbers_alike ∙ h'))
    by (OpenView.refused h e) (OpenView.accepted h' l' s' e') = absurd (h (numbers_alike ∙ h'))
    by (OpenView.refused h e) (OpenView.wrong h' l' s' e') = absurd (h (numbers_alike ∙ h'))
    by (OpenView.wrong_length h l e) (OpenView.refused h' e') = absurd (h' (sym numbers_alike ∙ h))
    by (OpenView.wrong_length h l e) (OpenView.wrong_length h' l' e') = o ∙ e ∙ sym (o' ∙ e')
    by (OpenView.wrong_length h l e) (OpenView.accepted h' l' s' e') = absurd (l l')
    by (OpenView.wrong_length h l e) (OpenView.wrong h' l' s' e') = absurd (l l')
    by (OpenView.accepted h l s e) v = absurd (never (numbers (o ∙ e)))
    by (OpenView.wrong h l s e) (OpenView.refused h' e') = absurd (h' (sym numbers_alike ∙ h))
    by (OpenView.wrong h l s e) (OpenView.wrong_length h' l' e') = absurd (l' l)
    by (OpenView.wrong h l s e) (OpenView.accepted h' l' s' e') = absurd (never' (numbers (o' ∙ e')))
    by (OpenView.wrong h l s e) (OpenView.wrong h' l' s' e') =
        refused_alike suite key key' nonce nonce ad ad cipher cipher tag tag outcome outcome' given given' pc pc pt pt refl refl o o'
        (numbers (o ∙ e)) (numbers (o' ∙ e'))

pub round_trip : RoundTrip
round_trip suite key nonce ad message s o given pm a z b =
    let seals : Seals suite key nonce ad message s.buffer s.answer.tag = record {
      answers = sym (ap (λ (x : Sealing). x.answer.number) a) ∙ z;
      gives_cipher = sym (ap (λ (x : Sealing). x.buffer) a);
      gives_tag = sym (ap (λ (x : Sealing). x.answer.tag) a);
    } in
    let is = sealed_is suite key nonce ad s.buffer s.answer.tag o b given pm seals in
    record {
      accepts = numbers is;
      gives_back = ap (λ (x : Opening). x.buffer) is ∙ recovers given pm seals;
    }

pub counts_the_list_of_seal : CountsTheListOfSeal
counts_the_list_of_seal suite key nonce ad message outcome a z =
    ((refused_in_order_of_seal suite key nonce ad message outcome a).done z).rows_are

pub counts_the_list_of_open : CountsTheListOfOpen
counts_the_list_of_open suite key nonce ad cipher tag outcome o =
    let r = refused_in_order_of_open suite key nonce ad cipher tag outcome o in (λ z. (r.done z).rows_are, λ z. (r.wrong z).rows_are)

pub rows_counted_sealing : RowsCountedSealing
rows_counted_sealing suite key nonce ad message outcome a z =
    counts_the_list_of_seal suite key nonce ad message outcome a z ∙ rows_sealed suite key nonce ad message

pub rows_counted_opening : RowsCountedOpening
rows_counted_opening suite key nonce ad cipher tag outcome given pc pt o =
    let counts = counts_the_list_of_open suite key nonce ad cipher tag outcome o in (
      λ z. let a = answered_0 suite key nonce ad cipher tag outcome o z in counts.0 z ∙ counted a.allowed a.tag_length,
      λ z. let w = answered_7 suite key nonce ad cipher tag outcome o z in counts.1 z ∙ counted w.allowed w.tag_length,
    )
  where
    counted : number suite key nonce ad cipher ≡ 0 → length tag ≡ 16
        → length (opened suite key nonce ad cipher tag).rows ≡ rows_for suite (length ad) (length cipher)
    counted h l = rows_opened given pc (record { size = l; bytes = pt }) (good _ _ _ _ _ h)

pub one_outcome_of_seal : OneOutcomeOfSeal
one_outcome_of_seal suite key nonce ad message outcome outcome' a a' = a ∙ sym a'

pub one_outcome_of_open : OneOutcomeOfOpen
one_outcome_of_open suite key nonce ad cipher tag outcome outcome' a a' = a ∙ sym a'
