-- `tweakey::expand` meets its contract: after i turns i key parts lie end to end, and TK3 and TK2 have taken i
-- steps; here the round constants are tested, once.
-- Assumes nothing.
use mathlib.Core.Path.{refl, ◌∙◌}
use native.Mathlib.Omega.{arith}
use borrow.Author.Rules.{rules}
use Rattle.octets.proofs.Tables.{byte, table_tested}
use Rattle.octets.specs.Octets.{Block}
use Rattle.field.specs.Field.{double}
use Rattle.tweakey.specs.Tweakey.{places, lfsr2, lfsr3, tk3, tk2, round_constant}
use Rattle.tweakey.proofs.Flat.{flat_turn, flat-none}
use Rattle.tweakey.proofs.Tweakeys.{replaced, tk3_step, tk2_step, key_part_length}
use Rattle.tweakey.proofs.expand.Goals as goal

pub loop-i-init : goal.loop-i-init
unfolding tk3 tk2
loop-i-init c = (flat-none _, refl, refl)

pub constant_block-requires : goal.constant_block-requires
unfolding round_constant double
constant_block-requires c = (table_tested round_constant 17 _ refl tt, search rules)

pub h_substitution-requires : goal.h_substitution-requires
unfolding places
h_substitution-requires c = refl

pub h_substitution-requires-in-loop-i : goal.h_substitution-requires-in-loop-i
unfolding places
h_substitution-requires-in-loop-i c = refl

pub loop-i-preserved : goal.loop-i-preserved
loop-i-preserved c =
    let l = c.loop-i in
    let a = c.args in
    let third : Block a.third = record { size = search rules; bytes = record { at = λ i. byte (search rules) } } in
    let second : Block a.second = record { size = search rules; bytes = record { at = λ i. byte (search rules) } } in
    let after3 = replaced lfsr3 c.h_substitution.result c.each_byte-next3.result (search rules) (λ i b. search rules) in
    let after2 = replaced lfsr2 c.h_substitution-in-loop-i.result c.each_byte-next2.result (search rules) (λ i b. search rules) in (
      c.write_block.ensures
          ∙ flat_turn _ (λ j b. key_part_length j third second) l.i l.bytes c.xor_block-part.result (omega arith) l.invariant.0
          (rw (c.xor_block-part.ensures, c.constant_block.ensures, c.xor_block.ensures, l.invariant.1, l.invariant.2)),
      rw (after3, c.h_substitution.ensures, l.invariant.1) (tk3_step l.i _),
      rw (after2, c.h_substitution-in-loop-i.ensures, l.invariant.2) (tk2_step l.i _),
    )
