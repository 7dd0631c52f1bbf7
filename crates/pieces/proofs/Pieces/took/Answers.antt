-- `pieces::Pieces::took` meets its contract: what refuses nothing keeps every sum small (`stands`, `take_passed`).
-- Assumes nothing.
use native.Mathlib.Omega.{arith}
use Rattle.pieces.proofs.Refusals.{few_rounds, stands, take_passed}
use Rattle.pieces.proofs.Answers.{took_is, text_is}
use Rattle.pieces.proofs.Pieces.took.Goals as goal

pub crypt_message-count-requires : goal.crypt_message-count-requires
crypt_message-count-requires c =
    let t = take_passed _ _ c.requires in
    let g = stands _ _ t.0 in
    (few_rounds g, omega (arith, g.within.few_bytes, t.1), omega (arith, g.within.few_rows, t.1))

pub overflow_add-self : goal.overflow_add-self
overflow_add-self c =
    let t = take_passed _ _ c.requires in
    omega (arith, t.1)

pub returns : goal.returns
returns c =
    let a = c.args in
    simp (
      c.stage_after.ensures,
      c.crypt_message-count.ensures.buffer_after,
      c.crypt_message-count.ensures.value,
      c.checksum-sum.ensures,
    )
    (record { value = took_is a.self a.piece.now _ _ (omega arith) (omega arith); piece_after = text_is a.self a.piece.now _ (omega arith) })
