-- How a note is shown between quotes: by printable bytes alone, so that it stays on its line and says nothing to a terminal.
-- Assumes nothing.
use Rattle.std.specs.Prelude.{Bool, true, false, List, [], ◌∷◌, ◌++◌, ℕ, ◌+◌, ◌/◌, ◌%◌, eqb, leb}
use Rattle.octets.specs.Octets.{pick}

-- from the space to the tilde
abbrev pub is_printable : ℕ → Bool
is_printable x = pick (leb 0x20 x) (leb x 0x7e) false

-- the quote and the backslash
abbrev pub is_mark : ℕ → Bool
is_mark x = pick (eqb x 0x22) true (eqb x 0x5c)

-- a hexadecimal digit: 0 to 9 and then a to f
unfoldable pub digit : ℕ → ℕ
digit n = pick (leb n 9) (0x30 + n) (0x57 + n)

-- a printable byte stands for itself, the quote and the backslash have a backslash before them, and any other byte is \x and two digits
unfoldable pub spelling : ℕ → List ℕ
spelling x =
    pick (is_printable x) (pick (is_mark x) (0x5c ∷ x ∷ []) (x ∷ []))
    (0x5c ∷ 0x78 ∷ digit (x / 16) ∷ digit (x % 16) ∷ [])

-- a note, byte by byte
unfoldable pub quoted : List ℕ → List ℕ
quoted [] = []
quoted (x ∷ note) = spelling x ++ quoted note
