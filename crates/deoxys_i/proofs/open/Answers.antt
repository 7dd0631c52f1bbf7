-- `deoxys_i::open` meets its contract: the parts make the definition's outcome (`opened_i`); the counts fit by the row counts.
-- Assumes nothing.
use mathlib.Core.Bool.{true}
use native.Mathlib.Omega.{arith}
use borrow.Author.Rules.{rules}
use Rattle.octets.specs.Octets.{zero_block}
use Rattle.deoxys_i.specs.Direction.{direction}
use Rattle.deoxys_i.specs.DeoxysI.{open_i}
use Rattle.modes.proofs.Counts.{auth_count}
use Rattle.deoxys_i.proofs.Counts.{crypt_count}
use Rattle.deoxys_i.proofs.Outcomes.{opened_i}
use Rattle.deoxys_i.proofs.open.Goals as goal

pub crypt_message-count-requires : goal.crypt_message-count-requires
crypt_message-count-requires c =
    let a = c.args in
    let ad = auth_count a.k 32 96 a.ad.now in
    rw c.compute_ad_tag-tally.ensures (search rules, search rules, omega arith)

pub tag-requires : goal.tag-requires
tag-requires c =
    let a = c.args in
    let ad = auth_count a.k 32 96 a.ad.now in
    let message = crypt_count (direction true a.k) a.k a.nonce.now a.buffer.now in
    rw (
      c.crypt_message-count.ensures.value,
      c.compute_ad_tag-tally.ensures,
    )
    (search rules, search rules, omega arith)

pub returns : goal.returns
unfolding open_i zero_block
returns c =
    let a = c.args in record {
      value = rw (
        c.tag.ensures,
        c.checksum-recovered_sum.ensures,
        c.crypt_message-count.ensures.buffer_after,
        c.crypt_message-count.ensures.value,
        c.compute_ad_tag-tally.ensures,
      )
          (opened_i a.k a.nonce.now a.ad.now a.buffer.now);
      buffer_after = c.crypt_message-count.ensures.buffer_after;
    }
