-- What the sealing and the opening of a mode are to each other, for both modes: what one makes, the other takes back.
-- Assumes nothing.
use mathlib.Core.Path.{◌≡◌}
use mathlib.Core.List.{List}
use Prim.Native.Nat.{ℕ}
use lib.ListN.{length}
use Rattle.octets.specs.Octets.{Bytes, Block}
use Rattle.modes.specs.Rows.{Outcome}

-- bytes, as many
pub record Like (s t : List ℕ) : Type 0 where
  pub size : length t ≡ length s
  pub bytes : Bytes t

-- what a mode's sealing and opening are to each other
pub record Mode (seal : List ℕ → Outcome) (open' : List ℕ → List ℕ → Outcome) : Type 0 where
  pub sealed_like : (m : List ℕ) → Bytes m → Like m (seal m).text
  pub tag_block : (m : List ℕ) → Bytes m → Block (seal m).tag
  pub opened_like : (c t : List ℕ) → Bytes c → Block t → Like c (open' c t).text
  pub gives_back : (m : List ℕ) → Bytes m → (open' (seal m).text (seal m).tag).text ≡ m
  pub same_tag : (m : List ℕ) → Bytes m → (open' (seal m).text (seal m).tag).tag ≡ (seal m).tag
  pub remakes : (c t : List ℕ) → Bytes c → Block t → (open' c t).tag ≡ t → (seal (open' c t).text).text ≡ c
  pub remakes_tag : (c t : List ℕ) → Bytes c → Block t → (open' c t).tag ≡ t → (seal (open' c t).text).tag ≡ t
