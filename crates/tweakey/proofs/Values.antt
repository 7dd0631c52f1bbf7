-- Constant i stands at place i (document 01, "Mistakes that look right"), by values: the first and the last block.
-- Assumes nothing.
use mathlib.Core.Path.{◌≡◌, refl}
use mathlib.Core.List.{List, [], ◌∷◌, ◌++◌}
use Prim.Native.Nat.{ℕ}
use lib.ListN.{replicate}
use Rattle.field.specs.Field.{double, times}
use Rattle.tweakey.specs.Tweakey.{round_constant, constant_block}

abbrev block_of : ℕ → List ℕ
block_of constant = 1 ∷ 2 ∷ 4 ∷ 8 ∷ replicate 4 constant ++ replicate 8 0

pub constant_at_its_place : constant_block 0 ∷ constant_block 16 ∷ [] ≡ block_of 0x2f ∷ block_of 0x72 ∷ []
unfolding constant_block round_constant times double
constant_at_its_place = refl
