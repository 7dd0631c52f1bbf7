-- `pieces::Pieces::take` meets its contract: refused, or done.
-- Assumes nothing.
use Rattle.pieces.proofs.Answers.{take-refused, take_done}
use Rattle.pieces.proofs.Pieces.take.Goals as goal

pub returns-in-Err : goal.returns-in-Err
returns-in-Err c = rw c.in-Err.ensures.0 (take-refused _ _ c.in-Err.ensures.1)

pub returns : goal.returns
returns c = simp (c.took-self.ensures.value, c.took-self.ensures.piece_after) (take_done _ _ c.in_default.ensures)
