-- A program that treats the first block rightly and copies the others (document 01, "How far a contract reaches"), told by values: the
-- keystream of three rows.
-- Assumes nothing.
use mathlib.Core.Path.{◌≡◌, refl}
use mathlib.Core.List.{[], ◌∷◌, ◌++◌}
use lib.ListN.{replicate}
use Rattle.modes.proofs.Values.{giving}
use Rattle.deoxys_ii.specs.DeoxysII.{given}

pub every_block_given : given (giving 1 ∷ giving 2 ∷ giving 3 ∷ []) ≡ replicate 16 1 ++ (replicate 16 2 ++ replicate 16 3)
unfolding given
every_block_given = refl
