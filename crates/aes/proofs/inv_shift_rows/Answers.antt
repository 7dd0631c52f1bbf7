-- `aes::inv_shift_rows` meets its contract: a step of 13 is row r turned right by r, by computation.
-- Assumes nothing.
use Rattle.octets.specs.Octets.{table}
use Rattle.aes.specs.Round.{inv_shift_rows}
use Rattle.aes.proofs.inv_shift_rows.Goals as goal

pub returns : goal.returns
unfolding inv_shift_rows table
returns c = c.turn_rows.ensures
