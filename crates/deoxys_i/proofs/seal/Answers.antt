-- `deoxys_i::seal` meets its contract: the parts make the definition's outcome (`sealed_i`); the counts fit by the row counts.
-- Assumes nothing.
use mathlib.Core.Bool.{false}
use native.Mathlib.Omega.{arith}
use borrow.Author.Rules.{rules}
use Rattle.octets.specs.Octets.{zero_block}
use Rattle.deoxys_i.specs.Direction.{direction}
use Rattle.deoxys_i.specs.DeoxysI.{seal_i}
use Rattle.modes.proofs.Counts.{auth_count}
use Rattle.deoxys_i.proofs.Counts.{crypt_count}
use Rattle.deoxys_i.proofs.Outcomes.{sealed_i}
use Rattle.deoxys_i.proofs.seal.Goals as goal

pub crypt_message-count-requires : goal.crypt_message-count-requires
crypt_message-count-requires c =
    let a = c.args in
    let ad = auth_count a.k 32 96 a.ad.now in
    rw c.compute_ad_tag-tally.ensures (search rules, search rules, omega arith)

pub tag-requires : goal.tag-requires
tag-requires c =
    let a = c.args in
    let ad = auth_count a.k 32 96 a.ad.now in
    let message = crypt_count (direction false a.k) a.k a.nonce.now a.buffer.now in
    rw (c.crypt_message-count.ensures.value, c.compute_ad_tag-tally.ensures)
    (search rules, search rules, omega arith)

pub returns : goal.returns
unfolding seal_i zero_block
returns c =
    let a = c.args in record {
      value = rw (
        c.tag.ensures,
        c.crypt_message-count.ensures.value,
        c.checksum-sum.ensures,
        c.compute_ad_tag-tally.ensures,
      )
          (sealed_i a.k a.nonce.now a.ad.now a.buffer.now _ c.crypt_message-count.auto.buffer);
      buffer_after = c.crypt_message-count.ensures.buffer_after;
    }
