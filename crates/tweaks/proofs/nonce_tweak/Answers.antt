-- `tweaks::nonce_tweak` meets its contract: after j stores j bytes are packed and one half byte is left over.
-- Assumes nothing.
use mathlib.Core.Path.{◌≡◌, sym}
use native.Mathlib.Numerals.{add-one}
use native.Mathlib.Omega.{arith}
use borrow.Author.Rules.{rules}
use Rattle.octets.proofs.Parts.{upto_turn}
use Rattle.octets.proofs.Tables.{table_at, table-length}
use Rattle.tweaks.specs.Tweaks.{numbered}
use Rattle.tweaks.proofs.Packing.{numbered-length, packed, packed_is}
use Rattle.tweaks.proofs.nonce_tweak.Goals as goal

pub loop-j-preserved : goal.loop-j-preserved
loop-j-preserved c =
    let l = c.loop-j in
    let a = c.args in
    let m = table-length (packed a.kind a.nonce.now) 8 in
    let n = numbered-length 0 a.i in
    record {
      written = upto_turn l.out _ (numbered 0 a.i) l.j _ l.invariant.written (omega arith) (omega arith)
          (rw l.invariant.left (sym (table_at (packed a.kind a.nonce.now) 8 l.j (search rules))));
      left = rw add-one;
      half = search rules;
      size = search rules;
    }

pub returns : goal.returns
returns c =
    let l = c.loop-j in
    let a = c.args in
    let e : l.j ≡ 8 = omega arith in
    rw (l.invariant.written, l.invariant.left, e) (packed_is a.kind a.i a.nonce.now (search rules))
