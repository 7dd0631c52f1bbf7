-- Rows, and Auth: document 01, "Rows" and "Associated data", which gives the rules of the Deoxys paper (v1.41). A row is one block cipher call.
-- Assumes nothing.
use Rattle.std.specs.Prelude.{List, [], ◌∷◌, ℕ, zero, suc, ◌+◌, ◌*◌, ◌/◌, length, drop}
use Rattle.octets.specs.Octets.{◌⊕◌, blocks_of, block_at, padded}
use Rattle.deoxys_bc.specs.Cipher.{encipher, decipher}
use Rattle.tweakey.specs.declared.Subkeys.{Subkeys}
use Rattle.tweaks.specs.Tweaks.{numbered}

pub record Row : Type 0 where
  pub tweak : List ℕ
  pub from : List ℕ
  pub to : List ℕ

-- the only two ways to make a row
abbrev pub enciphered : Subkeys → List ℕ → List ℕ → Row
enciphered k tweak block = record { tweak = tweak; from = block; to = encipher k tweak block }

abbrev pub deciphered : Subkeys → List ℕ → List ℕ → Row
deciphered k tweak block = record { tweak = tweak; from = block; to = decipher k tweak block }

-- what a mode makes of its input: the text that it leaves, the tag, and its rows in order
pub record Outcome : Type 0 where
  pub text : List ℕ
  pub tag : List ℕ
  pub rows : List Row

abbrev pub blocks : List ℕ → ℕ
blocks s = blocks_of (length s)

-- the row of a partial block, where there is one
abbrev pub partial_row : (List ℕ → Row) → List ℕ → List Row
partial_row call [] = []
partial_row call (x ∷ s) = call (x ∷ s) ∷ []

-- n full blocks of a text from number i on, and then its partial block, padded: each kind of block has its tweak byte 0
unfoldable pub text_rows : Subkeys → ℕ → ℕ → List ℕ → ℕ → ℕ → List Row
text_rows k full part s zero i = partial_row (λ p. enciphered k (numbered part i) (padded p)) (drop (16 * i) s)
text_rows k full part s (suc n) i = enciphered k (numbered full i) (block_at s i) ∷ text_rows k full part s n (i + 1)

abbrev pub auth_rows : Subkeys → ℕ → ℕ → List ℕ → List Row
auth_rows k full part s = text_rows k full part s (length s / 16) 0

-- associated data: 0x20, and 0x60 for a partial block
abbrev pub data_rows : Subkeys → List ℕ → List Row
data_rows k ad = auth_rows k 0x20 0x60 ad

-- Auth: what it was, XORed with what each row gave
unfoldable pub absorbed : List ℕ → List Row → List ℕ
absorbed auth [] = auth
absorbed auth (r ∷ rows) = absorbed (auth ⊕ r.to) rows
