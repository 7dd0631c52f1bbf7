-- `tweakey::key_schedule` meets its contract: after i turns i round keys lie end to end, and the tweak has taken i steps.
-- Assumes nothing.
use mathlib.Core.Path.{refl, ◌∙◌}
use native.Mathlib.Omega.{arith}
use borrow.Author.Rules.{rules}
use Rattle.octets.specs.Octets.{Block}
use Rattle.octets.proofs.Tables.{byte}
use Rattle.tweakey.specs.Tweakey.{places, tweak_after, round_key}
use Rattle.tweakey.proofs.Flat.{flat-none, flat_turn}
use Rattle.tweakey.proofs.Tweakeys.{tweak_step, round_key-length}
use Rattle.tweakey.proofs.key_schedule.Goals as goal

pub loop-i-init : goal.loop-i-init
unfolding tweak_after
loop-i-init c = (flat-none _, refl)

pub h_substitution-next-requires : goal.h_substitution-next-requires
unfolding places
h_substitution-next-requires c = refl

pub loop-i-preserved : goal.loop-i-preserved
unfolding round_key
loop-i-preserved c =
    let l = c.loop-i in
    let a = c.args in
    let tweak : Block a.tweak = record { size = search rules; bytes = record { at = λ i. byte (search rules) } } in (
      c.write_block.ensures
          ∙ flat_turn _ (λ j b. round_key-length a.k j tweak (search rules)) l.i l.keys c.xor_block-key.result (omega arith) l.invariant.0
          (rw (c.xor_block-key.ensures, c.read_block.ensures, l.invariant.1)),
      rw (c.h_substitution-next.ensures, l.invariant.1) (tweak_step l.i _),
    )
