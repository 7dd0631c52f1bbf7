-- `fields::overwrite` meets its contract: after i bytes the part is the body as far as byte i, and as it was from there.
-- Assumes nothing.
use Rattle.std.proofs.Common.{arith, rules}
use Rattle.octets.proofs.Parts.{upto_turn, upto_end}
use Rattle.fields.proofs.overwrite.Goals as goal

pub loop-i-preserved : goal.loop-i-preserved
loop-i-preserved c =
    let a = c.args in
    let l = c.loop-i in
    upto_turn l.part a.body.now a.part.now l.i _ l.invariant (omega arith) (omega arith) (search rules)

pub returns : goal.returns
returns c =
    let a = c.args in
    let l = c.loop-i in
    upto_end l.part a.body.now a.part.now l.i l.invariant (omega arith) (omega arith)
