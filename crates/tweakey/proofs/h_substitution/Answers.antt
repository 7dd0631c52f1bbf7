-- `tweakey::h_substitution` meets its contract: what the closure gives at each place is the byte at the lent place, which is below 16.
-- Assumes nothing.
use Rattle.std.proofs.Common.{rules, ◌∙◌, get_or}
use Rattle.std.proofs.iter.Serving.{serving}
use Rattle.octets.proofs.Tables.{made_table}
use Rattle.tweakey.specs.Tweakey.{h}
use Rattle.tweakey.proofs.Tweakeys.{listed_place_below}
use Rattle.tweakey.proofs.h_substitution.Goals as goal

pub from_fn-requires : goal.from_fn-requires
from_fn-requires c = (search rules, grind (serving, listed_place_below))

pub returns : goal.returns
unfolding h
returns c =
    made_table (λ i. get_or c.args.tk (get_or c.args.perm.now i 0) 0) _ _ _ (λ i t y k. search rules) 16 c.from_fn.ensures.items ∙ rw c.requires
