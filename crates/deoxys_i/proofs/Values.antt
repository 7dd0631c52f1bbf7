-- A program that treats the first block rightly and copies the others (document 01, "How far a contract reaches"), told by values: the text
-- that two rows make of 33 bytes of zeros, whose partial block is XORed with what a third gave.
-- Assumes nothing.
use mathlib.Core.Path.{◌≡◌, refl}
use mathlib.Core.List.{[], ◌∷◌, ◌++◌}
use lib.ListN.{replicate}
use Rattle.octets.specs.Octets.{◌⊕◌}
use Rattle.modes.proofs.Values.{giving}
use Rattle.deoxys_i.specs.DeoxysI.{text_of}

pub every_block_made : text_of 2 (giving 1 ∷ giving 2 ∷ giving 3 ∷ []) (replicate 33 0) ≡ replicate 16 1 ++ (replicate 16 2 ++ (3 ∷ []))
unfolding text_of ◌⊕◌
every_block_made = refl
