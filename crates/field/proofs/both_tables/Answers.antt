-- `field::both_tables` meets its contract: the tables as they stand in the code, by one test over all bytes each way.
-- Assumes nothing.
use mathlib.Core.List.{List}
use Prim.Native.Nat.{ℕ}
use lib.Dec.{T}
use lib.ListN.{get_or}
use Rattle.octets.proofs.Tables.{agree, agreed}
use Rattle.field.specs.Tables.{UndoEachOther}
use Rattle.field.proofs.both_tables.Goals as goal

tested : (s t : List ℕ) → T (agree (λ x. get_or t (get_or s x 0) 0) (λ x. x) 256) → T (agree (λ x. get_or s (get_or t x 0) 0) (λ x. x) 256) → UndoEachOther s t
tested s t back forth = record {
  there_and_back = agreed (λ x. get_or t (get_or s x 0) 0) (λ x. x) 256 back;
  back_and_there = agreed (λ x. get_or s (get_or t x 0) 0) (λ x. x) 256 forth;
}

pub returns : goal.returns
returns c = tested _ _ tt tt
