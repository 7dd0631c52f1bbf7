-- `deoxys_ii::seal` meets its contract: the parts make the definition's outcome (`sealed_ii`); the counts fit by the row counts.
-- Assumes nothing.
use mathlib.Core.Path.{refl}
use native.Mathlib.Omega.{arith}
use borrow.Author.Rules.{rules}
use Rattle.deoxys_ii.specs.DeoxysII.{seal_ii}
use Rattle.modes.proofs.Counts.{auth_count}
use Rattle.deoxys_ii.proofs.Outcomes.{sealed_ii}
use Rattle.deoxys_ii.proofs.seal.Goals as goal

pub authenticate_message-tally-requires : goal.authenticate_message-tally-requires
authenticate_message-tally-requires c =
    let a = c.args in
    let ad = auth_count a.k 32 96 a.ad.now in
    rw c.compute_ad_tag.ensures (search rules, omega arith)

pub tag-tagged-requires : goal.tag-tagged-requires
tag-tagged-requires c =
    let a = c.args in
    let ad = auth_count a.k 32 96 a.ad.now in
    let message = auth_count a.k 0 64 a.buffer.now in
    rw (c.authenticate_message-tally.ensures, c.compute_ad_tag.ensures) (search rules, omega arith)

pub encrypt_decrypt_message-count-requires : goal.encrypt_decrypt_message-count-requires
encrypt_decrypt_message-count-requires c =
    let a = c.args in
    let ad = auth_count a.k 32 96 a.ad.now in
    let message = auth_count a.k 0 64 a.buffer.now in
    rw (
      c.tag-tagged.ensures,
      c.authenticate_message-tally.ensures,
      c.compute_ad_tag.ensures,
    )
    (search rules, omega arith)

pub returns : goal.returns
unfolding seal_ii
returns c =
    let a = c.args in
    simp (
      c.encrypt_decrypt_message-count.ensures.buffer_after,
      c.encrypt_decrypt_message-count.ensures.value,
      c.tag-tagged.ensures,
      c.authenticate_message-tally.ensures,
      c.compute_ad_tag.ensures,
    )
    (record { value = sealed_ii a.k a.nonce.now a.ad.now a.buffer.now; buffer_after = refl })
