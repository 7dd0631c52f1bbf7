-- `risk::Shape::sealed_row` meets its contract by the laws on it; its rows are no more than a number can tell.
-- Assumes nothing.
use Rattle.std.proofs.Common.{arith}
use Rattle.risk.proofs.Tables.{small}
use Rattle.risk.proofs.Shape.sealed_row.Goals as goal

pub block_label-requires-2 : goal.block_label-requires-2
block_label-requires-2 c = let l = small _ _ _ c.requires.1 c.requires.0 in omega arith
