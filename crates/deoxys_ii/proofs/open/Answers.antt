-- `deoxys_ii::open` meets its contract: the parts make the definition's outcome (`opened_ii`); the counts fit by the row counts.
-- Assumes nothing.
use mathlib.Core.Path.{refl}
use native.Mathlib.Omega.{arith}
use borrow.Author.Rules.{rules}
use Rattle.deoxys_ii.specs.DeoxysII.{open_ii}
use Rattle.modes.proofs.Counts.{auth_count}
use Rattle.deoxys_ii.proofs.Counts.{keystream_count}
use Rattle.deoxys_ii.proofs.Outcomes.{opened_ii}
use Rattle.deoxys_ii.proofs.open.Goals as goal

pub encrypt_decrypt_message-count-requires : goal.encrypt_decrypt_message-count-requires
encrypt_decrypt_message-count-requires c =
    let a = c.args in
    let ad = auth_count a.k 32 96 a.ad.now in
    rw c.compute_ad_tag-tally.ensures (search rules, omega arith)

pub authenticate_message-recovered-requires : goal.authenticate_message-recovered-requires
authenticate_message-recovered-requires c =
    let a = c.args in
    let ad = auth_count a.k 32 96 a.ad.now in
    let stream = keystream_count a.k a.given a.nonce.now a.buffer.now in
    rw (
      c.encrypt_decrypt_message-count.ensures.value,
      c.compute_ad_tag-tally.ensures,
    )
    (search rules, omega arith)

pub tag-requires : goal.tag-requires
tag-requires c =
    let a = c.args in
    let ad = auth_count a.k 32 96 a.ad.now in
    let stream = keystream_count a.k a.given a.nonce.now a.buffer.now in
    let message = auth_count a.k 0 64 c.encrypt_decrypt_message-count.new.buffer in
    let kept = c.encrypt_decrypt_message-count.auto.buffer in
    rw (
      c.authenticate_message-recovered.ensures,
      c.encrypt_decrypt_message-count.ensures.value,
      c.compute_ad_tag-tally.ensures,
    )
    (search rules, omega arith)

pub returns : goal.returns
unfolding open_ii
returns c =
    let a = c.args in
    rw (
      c.tag.ensures,
      c.authenticate_message-recovered.ensures,
      c.encrypt_decrypt_message-count.ensures.buffer_after,
      c.encrypt_decrypt_message-count.ensures.value,
      c.compute_ad_tag-tally.ensures,
    )
    (record { value = opened_ii a.k a.nonce.now a.ad.now a.buffer.now a.given; buffer_after = refl })
