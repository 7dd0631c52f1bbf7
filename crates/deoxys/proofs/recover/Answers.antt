-- `deoxys::recover` meets its contract: the suite picks the mode; where nothing is refused, the lengths are what the mode requires.
-- Assumes nothing.
use mathlib.Core.Path.{◌≡◌, refl}
use Rattle.tweakey.proofs.Tweakeys.{rounds_small}
use Rattle.suites.proofs.Refusals.{good, key_is, nonce_i, nonce_ii}
use Rattle.deoxys.proofs.Answers.{opened_i, opened_ii}
use Rattle.deoxys.proofs.recover.Goals as goal

pub precompute_subkeys-k-requires : goal.precompute_subkeys-k-requires
precompute_subkeys-k-requires c = key_is (good _ _ _ _ _ c.requires)

pub unwrap-requires : goal.unwrap-requires
unwrap-requires c = c.try_into.ensures.0 (nonce_i (good _ _ _ _ _ c.requires) c.if-suite-le2.true)

pub open-requires : goal.open-requires
open-requires c =
    let g = good _ _ _ _ _ c.requires in
    (rw c.precompute_subkeys-k.ensures (rounds_small _), g.ad_fits, g.text_fits)

pub returns-then-suite-le2 : goal.returns-then-suite-le2
returns-then-suite-le2 c =
    let a = c.args in
    let given : c.unwrap.result.now ≡ a.nonce.now = (rw c.unwrap.ensures at c.try_into.ensures.1).same in
    rw (
      c.«open».ensures.buffer_after,
      c.«open».ensures.value,
      c.precompute_subkeys-k.ensures,
      given,
      opened_i _ _ _ _ _ a.tag c.if-suite-le2.true,
    )
    (record { value = refl; buffer_after = refl })

pub unwrap-requires-2 : goal.unwrap-requires-2
unwrap-requires-2 c = c.try_into-2.ensures.0 (nonce_ii (good _ _ _ _ _ c.requires) c.if-suite-le2.false)

pub open-requires-2 : goal.open-requires-2
open-requires-2 c =
    let g = good _ _ _ _ _ c.requires in
    (rw c.precompute_subkeys-k.ensures (rounds_small _), g.ad_fits, g.text_fits)

pub returns : goal.returns
returns c =
    let a = c.args in
    let given : c.unwrap-2.result.now ≡ a.nonce.now = (rw c.unwrap-2.ensures at c.try_into-2.ensures.1).same in
    rw (
      c.open-2.ensures.buffer_after,
      c.open-2.ensures.value,
      c.precompute_subkeys-k.ensures,
      given,
      opened_ii _ _ _ _ _ a.tag c.if-suite-le2.false,
    )
    (record { value = refl; buffer_after = refl })
