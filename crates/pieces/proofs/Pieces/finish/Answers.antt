-- `pieces::Pieces::finish` meets its contract: refused, or done.
-- Assumes nothing.
use native.Mathlib.Omega.{arith}
use Rattle.octets.specs.Octets.{zero_block}
use Rattle.pieces.specs.ByPieces.{finished}
use Rattle.pieces.proofs.Refusals.{few_rounds, stands}
use Rattle.pieces.proofs.Answers.{finish_refused, finish_done}
use Rattle.pieces.proofs.Pieces.finish.Goals as goal

pub returns-in-Err : goal.returns-in-Err
unfolding zero_block
returns-in-Err c = rw c.in-Err.ensures.0 (finish_refused _ c.in-Err.ensures.1)

pub tag-requires : goal.tag-requires
tag-requires c =
    let g = stands _ _ c.in_default.ensures in
    (few_rounds g, omega (arith, g.within.few_bytes), omega (arith, g.within.few_rows))

pub returns : goal.returns
unfolding finished
returns c = simp c.tag.ensures
    (finish_done _ c.in_default.ensures)
