-- The labels of a sealing's and of an opening's rows, from the suite and the two lengths alone: document 01, "Rows".
-- Assumes nothing.
use Rattle.std.specs.Prelude.{false, not, List, [], ◌∷◌, ◌++◌, ℕ, zero, suc, ◌+◌, ◌*◌, ◌%◌, eqb, ltb}
use Rattle.octets.specs.Octets.{pick, blocks_of}
use Rattle.suites.specs.Suites.{is_deoxys_i, key_length, nonce_length, refusal}
use Rattle.risk.specs.declared.Kind.{Kind}
use Rattle.risk.specs.declared.Kind.TheVariants.{Data, Message, Tag, Keystream}
use Rattle.risk.specs.declared.Direction.{Direction}
use Rattle.risk.specs.declared.Direction.TheVariants.{Sealing, Opening}
use Rattle.risk.specs.declared.Label.{Label}

-- block i of a text of so many bytes: partial where the text ends before the block does
abbrev pub block_label : Kind → ℕ → ℕ → Label
block_label kind bytes i = record { kind = kind; number = i; partial = ltb bytes (16 * i + 16) }

-- n blocks of it, from number i on
unfoldable pub block_labels : Kind → ℕ → ℕ → ℕ → List Label
block_labels kind bytes zero i = []
block_labels kind bytes (suc n) i = block_label kind bytes i ∷ block_labels kind bytes n (i + 1)

abbrev pub text_labels : Kind → ℕ → List Label
text_labels kind bytes = block_labels kind bytes (blocks_of bytes) 0

-- the tag: in Deoxys-I its tweak has the number of the message's blocks, and says whether one is partial; in Deoxys-II it has neither
abbrev pub tag_label : ℕ → ℕ → Label
tag_label suite messageBytes =
    pick (is_deoxys_i suite) (record { kind = Tag; number = blocks_of messageBytes; partial = not (eqb (messageBytes % 16) 0) })
    (record { kind = Tag; number = 0; partial = false })

-- in Deoxys-II a block of keystream for each block of the message, partial where that is; in Deoxys-I none
abbrev pub keystream_labels : ℕ → ℕ → List Label
keystream_labels suite messageBytes = pick (is_deoxys_i suite) [] (text_labels Keystream messageBytes)

-- a sealing: data, message, tag, and the keystream last
unfoldable pub labels : ℕ → ℕ → ℕ → List Label
labels suite adBytes messageBytes =
    text_labels Data adBytes ++ (text_labels Message messageBytes ++ (tag_label suite messageBytes ∷ keystream_labels suite messageBytes))

-- an opening: data, keystream, message, tag
unfoldable pub opening_labels : ℕ → ℕ → ℕ → List Label
opening_labels suite adBytes messageBytes =
    text_labels Data adBytes ++ (keystream_labels suite messageBytes ++ (text_labels Message messageBytes ++ (tag_label suite messageBytes ∷ [])))

-- the number by which document 01 refuses such a suite and lengths, with a key and a nonce that fit, or 0
abbrev pub refused : ℕ → ℕ → ℕ → ℕ
refused suite adBytes messageBytes = refusal suite (key_length suite) (nonce_length suite) adBytes messageBytes

-- the risk table of a sealing: a label for each row, and none where it is refused
unfoldable pub risk_table : ℕ → ℕ → ℕ → List Label
risk_table suite adBytes messageBytes = pick (eqb (refused suite adBytes messageBytes) 0) (labels suite adBytes messageBytes) []

-- and that of an opening with a tag of 16 bytes, of so many bytes of ciphertext
unfoldable pub opening_table : ℕ → ℕ → ℕ → List Label
opening_table suite adBytes messageBytes =
    pick (eqb (refused suite adBytes messageBytes) 0) (opening_labels suite adBytes messageBytes) []

-- the one or the other
abbrev pub labels_of : Direction → ℕ → ℕ → ℕ → List Label
labels_of Sealing = labels
labels_of Opening = opening_labels

abbrev pub table_of : Direction → ℕ → ℕ → ℕ → List Label
table_of Sealing = risk_table
table_of Opening = opening_table
