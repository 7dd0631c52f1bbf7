-- `tweakey::constant_block` meets its contract: the lent table is that of the round constants.
-- Assumes nothing.
use borrow.Author.Rules.{rules}
use Rattle.octets.proofs.Tables.{table_at}
use Rattle.tweakey.specs.Tweakey.{round_constant, constant_block}
use Rattle.tweakey.proofs.constant_block.Goals as goal

pub returns : goal.returns
unfolding constant_block
returns c = rw (c.requires.0, table_at round_constant 17 c.args.i (search rules))
