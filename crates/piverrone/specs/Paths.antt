-- Where a file is written before it takes OUT's place.
-- Assumes nothing.
use Rattle.std.specs.Prelude.{List, ℕ, ◌++◌, codes}

-- the path and then `.part`
abbrev pub part_of : List ℕ → List ℕ
part_of path = path ++ codes ".part"
