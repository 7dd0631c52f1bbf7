-- `modes::authenticate` meets its contract: what is left to absorb from where the loop stands gives what there was at first.
-- Assumes nothing.
use Rattle.std.proofs.Common.{arith, ◌≡◌, ◌<◌, ◌/◌, length}
use Rattle.std.proofs.lemmas.Grind.{common_steps}
use Rattle.modes.proofs.Authenticating.{auth_turn, auth_part, auth_none}
use Rattle.modes.proofs.Chunks.{chunk_at, rest_at}
use Rattle.modes.proofs.authenticate.Goals as goal

pub loop-i-preserved : goal.loop-i-preserved
loop-i-preserved c =
    let l = c.loop-i in
    let cut = c.as_chunks.ensures in
    let n : length c.as_chunks.result.0.now ≡ length c.args.text.now / 16 = cut.front_len in
    rw (c.absorb-tally.ensures, c.numbered.ensures)
    (record {
      left = auth_turn _ _ _ _ _ _ l.tally _ l.invariant.left _ (rw cut.front (chunk_at c.args.text.now _ l.i (omega arith))) (omega arith);
      counted = omega arith;
    })

pub returns-then-not-is_empty : goal.returns-then-not-is_empty
returns-then-not-is_empty c =
    let l = c.loop-i in
    let cut = c.as_chunks.ensures in
    let n : length c.as_chunks.result.0.now ≡ length c.args.text.now / 16 = cut.front_len in
    let some : 0 < length c.as_chunks.result.1.now = grind (arith, common_steps) in
    rw (c.absorb.ensures, c.numbered-tweak.ensures, c.pad.ensures, ← n)
    (auth_part _ _ _ _ _ _ l.tally _ l.invariant.left _ (rw cut.back (rest_at c.args.text.now n)) (omega arith) some)

pub returns : goal.returns
returns c =
    let l = c.loop-i in
    let cut = c.as_chunks.ensures in
    let n : length c.as_chunks.result.0.now ≡ length c.args.text.now / 16 = cut.front_len in
    let none : length c.as_chunks.result.1.now ≡ 0 = grind (arith, common_steps) in
    rw (← n) (auth_none _ _ _ _ _ _ l.tally _ l.invariant.left _ (rw cut.back (rest_at c.args.text.now n)) (omega arith) none)
