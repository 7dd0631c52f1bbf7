-- `deoxys_i::checksum` meets its contract: after some blocks the sum is the fold over them.
-- Assumes nothing.
use Rattle.std.proofs.Common.{arith, ◌≡◌, ◌<◌, length}
use Rattle.std.proofs.lemmas.Grind.{common_steps}
use Rattle.deoxys_i.proofs.Checksums.{blocks_summed, sum_part, sum_none}
use Rattle.deoxys_i.proofs.checksum.Goals as goal

pub returns-then-not-is_empty : goal.returns-then-not-is_empty
returns-then-not-is_empty c =
    let a = c.args in
    let cut = c.as_chunks.ensures in
    let sum : c.loop-block.sum ≡ blocks_summed a.from a.message.now = rw (← cut.front) (grind (arith, common_steps)) in
    let some : 0 < length c.as_chunks.result.1.now = grind (arith, common_steps) in
    rw (c.xor_block.ensures, c.pad.ensures, sum) (sum_part a.from a.message.now _ cut.back some)

pub returns : goal.returns
returns c =
    let a = c.args in
    let cut = c.as_chunks.ensures in
    let sum : c.loop-block.sum ≡ blocks_summed a.from a.message.now = rw (← cut.front) (grind (arith, common_steps)) in
    let none : length c.as_chunks.result.1.now ≡ 0 = grind (arith, common_steps) in
    rw sum (sum_none a.from a.message.now _ cut.back none)
