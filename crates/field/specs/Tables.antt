-- Two tables that undo each other, as document 01, "Code places and their forms", wants it of the code's own: SBOX and INV_SBOX.
-- Assumes nothing.
use Rattle.std.specs.Prelude.{◌≡◌, List, ℕ, ◌<◌, get_or}

pub record UndoEachOther (sbox inv-sbox : List ℕ) : Type 0 where
  pub there_and_back : (x : ℕ) → x < 256 → get_or inv-sbox (get_or sbox x 0) 0 ≡ x
  pub back_and_there : (x : ℕ) → x < 256 → get_or sbox (get_or inv-sbox x 0) 0 ≡ x
