-- `risk::Shape::opened_row` meets its contract by the laws on it; its rows are no more than a number can tell.
-- Assumes nothing.
use Rattle.std.proofs.Common.{arith}
use Rattle.risk.proofs.Tables.{small}
use Rattle.risk.proofs.Shape.opened_row.Goals as goal

pub block_label-requires : goal.block_label-requires
block_label-requires c = small _ _ _ c.requires.1 c.requires.0

pub block_label-requires-then-n-blocks : goal.block_label-requires-then-n-blocks
block_label-requires-then-n-blocks c = let l = small _ _ _ c.requires.1 c.requires.0 in omega arith
