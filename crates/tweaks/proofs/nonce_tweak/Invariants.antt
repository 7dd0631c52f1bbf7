-- `tweaks::nonce_tweak` meets its contract: after j bytes j are packed and a half byte is left over.
-- Assumes nothing.
use mathlib.Core.Path.{◌≡◌}
use Prim.Native.Nat.{◌<◌}
use lib.ListN.{length}
use Rattle.octets.specs.Octets.{table}
use Rattle.octets.proofs.Parts.{upto}
use Rattle.tweaks.specs.Tweaks.{numbered}
use Rattle.tweaks.proofs.Packing.{packed, left_over}
use Rattle.tweaks.proofs.nonce_tweak.Given as goal

abbrev pub invariant-loop-j : goal.invariant-loop-j
invariant-loop-j l = record {
  written : l.out ≡ upto (table (packed l.kind l.nonce) 8) (numbered 0 l.i) l.j;
  left : l.half ≡ left_over l.kind l.nonce l.j;
  half : l.half < 16;
  size : length l.out ≡ 16;
}
