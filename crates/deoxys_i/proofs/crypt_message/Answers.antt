-- `deoxys_i::crypt_message` meets its contract: what is still to do of the buffer, from where the loop stands, gives
-- what there was to do at first.
-- Assumes nothing.
use Rattle.std.proofs.Common.{rules, arith, ◌∙◌}
use Rattle.octets.specs.Octets.{zero_block}
use Rattle.octets.proofs.Parts.{rest_is, rest_put}
use Rattle.modes.proofs.Counts.{counted}
use Rattle.deoxys_i.proofs.Message.{crypt_turn, crypt_part, crypt_none}
use Rattle.deoxys_i.proofs.crypt_message.Goals as goal

pub loop-i-preserved : goal.loop-i-preserved
loop-i-preserved c =
    let l = c.loop-i in
    let turn = c.crypt_turn-running in
    let t = crypt_turn _ _ _ _ _ _ _ _ _ _ l.invariant.left turn.new.buffer
    (search rules) (search rules)
    turn.auto.buffer
    turn.ensures.buffer_after in
    rw turn.ensures.value (record { left = t; size = turn.auto.buffer ∙ l.invariant.size; counted = omega arith })

pub returns-then-at-buffer : goal.returns-then-at-buffer
unfolding zero_block
returns-then-at-buffer c =
    let l = c.loop-i in
    let t = crypt_part _ _ _ _ _ _ _ _ _ _ l.invariant.left (omega arith) (omega arith) in
    rw (
      rest_put,
      c.xor_into.ensures,
      c.encipher-called.ensures,
      c.nonce_tweak-tweak.ensures,
      rest_is,
    )
    (record { value = counted t.0; buffer_after = t.1 _ (omega arith) })

pub returns : goal.returns
returns c =
    let l = c.loop-i in
    let t = crypt_none _ _ _ _ _ _ _ _ _ _ l.invariant.left (omega arith) (omega arith) in
    record { value = counted t.0; buffer_after = t.1 }
