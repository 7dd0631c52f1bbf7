-- `deoxys_bc::encipher` meets its contract: after i turns the state is i rounds over the flat round keys, and these are the round keys.
-- Assumes nothing.
use mathlib.Core.Path.{◌≡◌}
use Prim.Native.Nat.{◌≤◌}
use native.Mathlib.Omega.{arith}
use lib.ListN.{length}
use borrow.Author.Rules.{rules}
use Rattle.octets.specs.Octets.{Block}
use Rattle.octets.proofs.Tables.{byte}
use Rattle.deoxys_bc.proofs.Rounds.{KeyParts, flat-encipher}
use Rattle.deoxys_bc.proofs.encipher.Goals as goal

pub returns : goal.returns
returns c =
    let a = c.args in
    let small : a.k.rounds ≤ 16 = omega arith in
    let tweak : Block a.tweak = record { size = search rules; bytes = record { at = λ i. byte (search rules) } } in
    let fits : length a.k.bytes ≡ 272 = search rules in
    let parts : KeyParts a.k = record { bytes = record { at = λ i. byte (search rules) }; enough = omega arith } in
    let e : c.loop-i.i ≡ a.k.rounds = omega arith in
    rw (
      c.raised.ensures,
      c.loop-i.invariant,
      c.xor_block-state.ensures,
      c.read_block.ensures,
      c.key_schedule-keys.ensures,
      e,
      flat-encipher parts tweak small fits a.block,
    )
