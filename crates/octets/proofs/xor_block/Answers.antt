-- `octets::xor_block` meets its contract: what the closure gives at each place is the XOR of the two bytes there.
-- Assumes nothing.
use Rattle.std.proofs.Common.{rules, ◌∙◌}
use Rattle.octets.proofs.Tables.{made_table, xor_table}
use Rattle.octets.proofs.xor_block.Goals as goal

pub returns : goal.returns
returns c = made_table _ _ _ _ (λ i t y k. search rules) 16 c.from_fn.ensures.items ∙ xor_table c.args.a c.args.b (search rules) (search rules)
