-- `aes::mix_columns` meets its contract: the loop fills the block by `mix_byte`; the turned blocks are the columns turned, by computation.
-- Assumes nothing.
use mathlib.Core.Path.{◌∙◌}
use borrow.Author.Rules.{rules}
use Rattle.octets.specs.Octets.{table}
use Rattle.octets.proofs.Tables.{filled_all}
use Rattle.aes.specs.Round.{mix_columns}
use Rattle.aes.proofs.mix_columns.Goals as goal

pub returns : goal.returns
unfolding mix_columns table
returns c = filled_all c.loop-i.invariant (search rules)
    ∙ rw (
      c.turn_columns-fourth.ensures,
      c.turn_columns-third.ensures,
      c.turn_columns-second.ensures,
    )
