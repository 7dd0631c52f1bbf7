-- `piverrone::files::large_space` meets its contract: the length of a repeat, without counting it out.
-- Assumes nothing.
use mathlib.Core.Path.{sym}
use Prim.Native.Nat.{ℕ}
use lib.ListN.{length-replicate}
use Rattle.piverrone.proofs.files.large_space.Goals as goal

pub returns : goal.returns
returns c = sym (length-replicate {A = ℕ} 1048593 0)
