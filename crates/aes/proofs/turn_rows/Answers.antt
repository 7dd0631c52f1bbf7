-- `aes::turn_rows` meets its contract: what the closure gives at each place is the byte that is turned there.
-- Assumes nothing.
use Rattle.std.proofs.Common.{rules}
use Rattle.octets.proofs.Tables.{made_table}
use Rattle.aes.proofs.turn_rows.Goals as goal

pub returns : goal.returns
returns c = made_table _ _ _ _ (λ i t y k. search rules) 16 c.from_fn.ensures.items
