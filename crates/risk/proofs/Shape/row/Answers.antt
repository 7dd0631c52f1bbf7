-- `risk::Shape::row` meets its contract by the laws on it; a row that is there is one of a text that is not refused.
-- Assumes nothing.
use Rattle.std.proofs.Common.{arith}
use Rattle.risk.proofs.Tables.{fits, later_fits}
use Rattle.risk.proofs.Shape.row.Goals as goal

pub block_label-requires : goal.block_label-requires
block_label-requires c = let l = (fits _ _ _ _ (rw c.rows.ensures at c.if-rows-i.false)).ad_fits in omega arith

pub later_row-requires : goal.later_row-requires
later_row-requires c =
    let l = later_fits _ _ _ _ _ (rw c.rows.ensures at c.if-rows-i.false) c.blocks-a.ensures c.if-i-a.false in
    (l.0, omega (arith, l.1))
