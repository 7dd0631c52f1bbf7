-- `tweakey::lfsr3_byte` meets its contract: by one test over the bytes.
-- Assumes nothing.
use Prim.Native.Nat.{◌*◌, ◌/◌, ◌%◌}
use lib.Bits.{bit_or, bit_xor}
use borrow.Author.Rules.{rules}
use Rattle.octets.proofs.Tables.{agreed}
use Rattle.tweakey.specs.Tweakey.{lfsr3}
use Rattle.tweakey.proofs.lfsr3_byte.Goals as goal

pub returns : goal.returns
unfolding lfsr3
returns c = agreed (λ x. bit_or (x / 2) (bit_xor x (x / 64) * 128 % 256)) lfsr3 256 tt c.args.x (search rules)
