-- `tweakey::lfsr2_byte` meets its contract: by one test over the bytes.
-- Assumes nothing.
use Prim.Native.Nat.{◌*◌, ◌/◌, ◌%◌}
use lib.Bits.{bit_or, bit_and, bit_xor}
use borrow.Author.Rules.{rules}
use Rattle.octets.proofs.Tables.{agreed}
use Rattle.tweakey.specs.Tweakey.{lfsr2}
use Rattle.tweakey.proofs.lfsr2_byte.Goals as goal

pub returns : goal.returns
unfolding lfsr2
returns c = agreed (λ x. bit_or (x * 2 % 256) (bit_and (bit_xor (x / 128) (x / 32)) 1)) lfsr2 256 tt c.args.x (search rules)
