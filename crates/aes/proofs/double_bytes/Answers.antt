-- `aes::double_bytes` meets its contract: what the closure gives at each place is the byte there, doubled.
-- Assumes nothing.
use Rattle.std.proofs.Common.{rules}
use Rattle.octets.proofs.Tables.{made_table}
use Rattle.octets.specs.Octets.{each_byte}
use Rattle.aes.proofs.double_bytes.Goals as goal

pub returns : goal.returns
unfolding each_byte
returns c = made_table _ _ _ _ (λ i t y k. search rules) 16 c.from_fn.ensures.items
