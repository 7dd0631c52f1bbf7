-- `tweakey::each_byte` meets its contract: what the closure gives at each place is what the rule gives for the byte there.
-- Assumes nothing.
use Rattle.std.proofs.Common.{rules, get_or}
use Rattle.octets.proofs.Tables.{made_at}
use Rattle.tweakey.proofs.each_byte.Goals as goal

pub returns : goal.returns
returns g c = made_at (λ i y. g.F.Fn.post c.args.rule (get_or c.args.tk i 0, tt) y) _ _ _ (λ i t y k. search rules) 16 c.from_fn.ensures.items
