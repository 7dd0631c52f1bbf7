-- `deoxys::seal` meets its contract: refused, or done.
-- Assumes nothing.
use mathlib.Core.Path.{sym, ◌∙◌}
use Rattle.octets.specs.Octets.{zero_block}
use Rattle.suites.proofs.Numbers.{not_none}
use Rattle.deoxys.proofs.Answers.{seal_refused, seal_done}
use Rattle.deoxys.proofs.seal.Goals as goal

pub returns-in-Err : goal.returns-in-Err
unfolding zero_block
returns-in-Err c = rw (c.number.ensures, c.in-Err.ensures) (seal_refused _ _ _ _ _ (λ e. not_none _ (c.in-Err.ensures ∙ e)))

pub returns : goal.returns
returns c = rw (c.protect.ensures.buffer_after, c.protect.ensures.value) (seal_done _ _ _ _ _ (sym c.in_default.ensures))
