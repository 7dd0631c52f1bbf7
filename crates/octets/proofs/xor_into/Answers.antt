-- `octets::xor_into` meets its contract: after i bytes the part is the XOR as far as byte i, and as it was from there.
-- Assumes nothing.
use Rattle.std.proofs.Common.{◌≡◌, sym, arith, rules, length}
use Rattle.octets.specs.Octets.{◌⊕◌}
use Rattle.octets.proofs.Xor.{⊕-length, ⊕_at}
use Rattle.octets.proofs.Parts.{upto_turn, upto_end, upto_ahead}
use Rattle.octets.proofs.xor_into.Goals as goal

pub loop-i-preserved : goal.loop-i-preserved
loop-i-preserved c =
    let a = c.args in
    let l = c.loop-i in
    let n : length a.block ≡ 16 = search rules in
    let m = ⊕-length a.part.now a.block (omega arith) in
    let ahead = upto_ahead (a.part.now ⊕ a.block) a.part.now l.i (omega arith) (omega arith) in
    let here = ⊕_at a.part.now a.block l.i (omega arith) (omega arith) in
    upto_turn l.part _ a.part.now l.i _ l.invariant (omega arith) (omega arith) (simp (l.invariant, ahead) (sym here))

pub returns : goal.returns
returns c =
    let a = c.args in
    let l = c.loop-i in
    let n : length a.block ≡ 16 = search rules in
    let m = ⊕-length a.part.now a.block (omega arith) in
    upto_end l.part _ a.part.now l.i l.invariant (omega arith) (omega arith)
