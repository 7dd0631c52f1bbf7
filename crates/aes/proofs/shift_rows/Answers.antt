-- `aes::shift_rows` meets its contract: a step of 5 is row r turned left by r, by computation.
-- Assumes nothing.
use Rattle.octets.specs.Octets.{table}
use Rattle.aes.specs.Round.{shift_rows}
use Rattle.aes.proofs.shift_rows.Goals as goal

pub returns : goal.returns
unfolding shift_rows table
returns c = c.turn_rows.ensures
