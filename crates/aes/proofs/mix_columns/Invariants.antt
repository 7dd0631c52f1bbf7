-- `aes::mix_columns` meets its contract: the loop fills the block by `mix_byte`; the turned blocks are the columns turned, by computation.
-- Assumes nothing.
use lib.ListN.{get_or}
use Rattle.octets.proofs.Tables.{Filled}
use Rattle.aes.specs.Round.{mix_byte}
use Rattle.aes.proofs.mix_columns.Given as goal

abbrev pub invariant-loop-i : goal.invariant-loop-i
invariant-loop-i l = Filled (λ k. mix_byte (get_or l.block k 0) (get_or l.second k 0) (get_or l.third k 0) (get_or l.fourth k 0)) 16 l.out l.i
