-- A sealed file: the ciphertext, and then the 16 bytes of the tag. One that is shorter than a tag is a tag too short, and no ciphertext.
-- Assumes nothing.
use Rattle.std.specs.Prelude.{List, ℕ, ◌-◌, length, take, drop}

-- where the tag starts
abbrev pub tag_at : List ℕ → ℕ
tag_at file = length file - 16

abbrev pub cipher_in : List ℕ → List ℕ
cipher_in file = take (tag_at file) file

abbrev pub tag_in : List ℕ → List ℕ
tag_in file = drop (tag_at file) file
