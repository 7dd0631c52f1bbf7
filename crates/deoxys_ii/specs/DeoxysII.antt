-- Deoxys-II: document 01, "Modes", which gives the rules of the Deoxys paper (v1.41).
-- Assumes nothing.
use Rattle.std.specs.Prelude.{List, [], ◌∷◌, ◌++◌, ℕ, zero, suc, ◌+◌}
use Rattle.octets.specs.Octets.{◌⊕◌, zero_block}
use Rattle.tweakey.specs.declared.Subkeys.{Subkeys}
use Rattle.tweaks.specs.Tweaks.{keystream_tweak}
use Rattle.modes.specs.Rows.{Row, enciphered, Outcome, blocks, auth_rows, data_rows, absorbed}

-- Auth goes on over the message: byte 0 is 0x00, of a partial block 0x40
abbrev pub message_rows : Subkeys → List ℕ → List Row
message_rows k message = auth_rows k 0x00 0x40 message

-- Auth enciphered, with tweak 0x10 followed by the nonce
abbrev pub tag_row : Subkeys → List ℕ → List ℕ → List ℕ → Row
tag_row k nonce ad message =
    enciphered k (0x10 ∷ nonce) (absorbed (absorbed zero_block (data_rows k ad)) (message_rows k message))

-- n blocks of keystream from number j on: the block 0x00 followed by the nonce, enciphered
unfoldable pub keystream_from : Subkeys → List ℕ → List ℕ → ℕ → ℕ → List Row
keystream_from k tag nonce zero j = []
keystream_from k tag nonce (suc n) j = enciphered k (keystream_tweak tag j) (0x00 ∷ nonce) ∷ keystream_from k tag nonce n (j + 1)

abbrev pub keystream_rows : Subkeys → List ℕ → List ℕ → List ℕ → List Row
keystream_rows k tag nonce s = keystream_from k tag nonce (blocks s) 0

-- what the rows gave, end to end
unfoldable pub given : List Row → List ℕ
given [] = []
given (r ∷ rows) = r.to ++ given rows

-- a text XORed with the keystream of a tag
abbrev pub crypted : Subkeys → List ℕ → List ℕ → List ℕ → List ℕ
crypted k tag nonce s = s ⊕ given (keystream_rows k tag nonce s)

unfoldable pub seal_ii : Subkeys → List ℕ → List ℕ → List ℕ → Outcome
seal_ii k nonce ad message = record {
  text = crypted k (tag_row k nonce ad message).to nonce message;
  tag = (tag_row k nonce ad message).to;
  rows =
      data_rows k ad ++ (message_rows k message ++ (tag_row k nonce ad message ∷ keystream_rows k (tag_row k nonce ad message).to nonce message));
}

-- opening takes the keystream from the given tag, and computes the tag of what it recovers
unfoldable pub open_ii : Subkeys → List ℕ → List ℕ → List ℕ → List ℕ → Outcome
open_ii k nonce ad cipher tag = record {
  text = crypted k tag nonce cipher;
  tag = (tag_row k nonce ad (crypted k tag nonce cipher)).to;
  rows =
      data_rows k ad
      ++ (keystream_rows k tag nonce cipher ++ (message_rows k (crypted k tag nonce cipher) ++ (tag_row k nonce ad (crypted k tag nonce cipher) ∷ [])));
}
