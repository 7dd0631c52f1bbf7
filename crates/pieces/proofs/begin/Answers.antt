-- `pieces::begin` meets its contract: refused, or nothing taken yet.
-- Assumes nothing.
use mathlib.Core.Path.{sym, ◌∙◌}
use native.Mathlib.Omega.{arith}
use Rattle.suites.proofs.Numbers.{not_none}
use Rattle.suites.proofs.Refusals.{good, key_is, nonce_i}
use Rattle.tweakey.proofs.Tweakeys.{rounds_small}
use Rattle.pieces.proofs.Refusals.{begin_passed}
use Rattle.pieces.proofs.Answers.{begin_refused, begin_done, nothing_taken}
use Rattle.pieces.proofs.begin.Goals as goal

pub returns-in-Err : goal.returns-in-Err
returns-in-Err c = rw (c.void.ensures, c.number.ensures, c.in-Err.ensures) (begin_refused _ _ _ _ (λ e. not_none _ (c.in-Err.ensures ∙ e)))

pub precompute_subkeys-keys-requires : goal.precompute_subkeys-keys-requires
precompute_subkeys-keys-requires c = let t = begin_passed _ _ _ _ (sym c.in_default.ensures) in key_is (good _ _ _ _ _ t.1)

pub compute_ad_tag-tally-requires : goal.compute_ad_tag-tally-requires
compute_ad_tag-tally-requires c =
    let t = begin_passed _ _ _ _ (sym c.in_default.ensures) in
    (rw c.precompute_subkeys-keys.ensures (rounds_small _), omega (arith, (good _ _ _ _ _ t.1).ad_fits))

pub copy_from_slice-requires : goal.copy_from_slice-requires
copy_from_slice-requires c = let t = begin_passed _ _ _ _ (sym c.in_default.ensures) in sym (nonce_i (good _ _ _ _ _ t.1) t.0)

pub returns : goal.returns
returns c = simp (c.copy_from_slice.ensures.after, c.compute_ad_tag-tally.ensures, c.precompute_subkeys-keys.ensures)
    (nothing_taken _ _ _ ∙ begin_done _ _ _ _ (sym c.in_default.ensures))
