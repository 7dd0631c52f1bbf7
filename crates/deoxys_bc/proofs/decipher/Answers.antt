-- `deoxys_bc::decipher` meets its contract: what the equivalent inverse cipher has still to do, from where the loop stands, is
-- what it had at first.
-- Assumes nothing.
use mathlib.Core.Path.{◌≡◌}
use Prim.Native.Nat.{◌≤◌}
use native.Mathlib.Omega.{arith}
use lib.ListN.{length}
use borrow.Author.Rules.{rules}
use Rattle.octets.specs.Octets.{Block}
use Rattle.octets.proofs.Tables.{byte}
use Rattle.deoxys_bc.proofs.Rounds.{KeyParts, flat-decipher}
use Rattle.deoxys_bc.proofs.decipher.Goals as goal

pub returns : goal.returns
returns c =
    let a = c.args in
    let small : a.k.rounds ≤ 16 = omega arith in
    let tweak : Block a.tweak = record { size = search rules; bytes = record { at = λ i. byte (search rules) } } in
    let block : Block a.block = record { size = search rules; bytes = record { at = λ i. byte (search rules) } } in
    let fits : length a.k.bytes ≡ 272 = search rules in
    let parts : KeyParts a.k = record { bytes = record { at = λ i. byte (search rules) }; enough = omega arith } in
    let e : c.loop-i.i ≡ 0 = omega arith in
    let done = rw (
      e,
      c.inv_mix_columns-state.ensures,
      c.xor_block.ensures,
      c.read_block-last.ensures,
      c.key_schedule-keys.ensures,
      flat-decipher parts tweak small fits block,
    )
    at c.loop-i.invariant in
    rw (c.raised.ensures, c.mix_columns.ensures, done)
