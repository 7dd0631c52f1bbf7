-- A record, byte by byte: document 02, request b, by values. Reader and writer agree with each other in any layout; this one is 02's.
-- Assumes nothing.
use mathlib.Core.Path.{◌≡◌, refl}
use mathlib.Core.List.{[], ◌∷◌}
use lib.ListN.{take, replicate}
use Rattle.octets.specs.Octets.{big_endian}
use Rattle.fields.specs.Fields.{field, fields}
use Rattle.record.specs.HouseRecord.{written, row_data}

-- suite 1, row 7, a nonce of eight bytes, the note "ab", a ciphertext of one byte, a tag
pub in_bytes :
    written (record {
      suite = 1;
      row = 7;
      nonce = 0x10 ∷ 0x11 ∷ 0x12 ∷ 0x13 ∷ 0x14 ∷ 0x15 ∷ 0x16 ∷ 0x17 ∷ [];
      note = 0x61 ∷ 0x62 ∷ [];
      cipher = 0xc0 ∷ [];
      tag = replicate 16 0xee;
    })
    ≡ 0x01 ∷ 0x00 ∷ 0x01 ∷ 0x01
    ∷ 0x02 ∷ 0x00 ∷ 0x02 ∷ 0x00 ∷ 0x07
    ∷ 0x03 ∷ 0x00 ∷ 0x08 ∷ 0x10 ∷ 0x11 ∷ 0x12 ∷ 0x13 ∷ 0x14 ∷ 0x15 ∷ 0x16 ∷ 0x17
    ∷ 0x04 ∷ 0x00 ∷ 0x02 ∷ 0x61 ∷ 0x62
    ∷ 0x05 ∷ 0x00 ∷ 0x01 ∷ 0xc0
    ∷ 0x06 ∷ 0x00 ∷ 0x10 ∷ replicate 16 0xee
unfolding written fields field big_endian
in_bytes = refl

-- a length of two digits, the higher first
pub long_field : take 3 (field 4 (replicate 300 0)) ≡ 0x04 ∷ 0x01 ∷ 0x2c ∷ []
unfolding field big_endian
long_field = refl

-- the associated data of row 20 with the note "ab"
pub data_in_bytes : row_data 20 (0x61 ∷ 0x62 ∷ []) ≡ 0x00 ∷ 0x14 ∷ 0x61 ∷ 0x62 ∷ []
unfolding row_data big_endian
data_in_bytes = refl
