-- Document 01, "Checked instances": those marked [P], 1 to 12, each row as (number, what is computed of the definitions, what 01 states).
-- One claim, proved by one computation.
-- Assumes nothing.
use mathlib.Core.Path.{◌≡◌, refl}
use mathlib.Core.List.{List, [], ◌∷◌, ◌++◌, map}
use Prim.Native.Nat.{ℕ}
use lib.ListN.{length, get_or, take, drop, replicate}
use Rattle.octets.specs.Octets.{◌⊕◌, table, each_byte, zero_block, big_endian}
use Rattle.field.specs.Field.{double, times, power, inverse}
use Rattle.field.specs.Substitution.{affine, sub}
use Rattle.aes.specs.Round.{mix_byte, mix_columns}
use Rattle.tweakey.specs.Tweakey.{lfsr2, lfsr3, round_constant, constant_block, expanded}
use Rattle.tweaks.specs.Tweaks.{nonce_tweak, keystream_tweak}
use Rattle.tweakey.specs.declared.Subkeys.{Subkeys}
use Rattle.modes.specs.Rows.{Row, enciphered, text_rows}
use Rattle.deoxys_i.specs.DeoxysI.{message_rows, crypt_rows, tag_row, seal_i}
use Rattle.deoxys_ii.specs.DeoxysII.{keystream_from, keystream_rows, seal_ii}
use Rattle.suites.specs.Suites.{key_length, nonce_length}
use Rattle.deoxys.specs.Entry.{sealed}

pub record Instance : Type 0 where
  pub number : ℕ
  pub computed : List ℕ
  pub stated : List ℕ

-- the tweak of row i
tweak_at : List Row → ℕ → List ℕ
tweak_at rows i = get_or (map (λ (r : Row). r.tweak) rows) i []

-- no instance depends on the key
any_key : Subkeys
any_key = expanded (replicate 16 0)

-- what the instances 6 to 8 share
nonce : List ℕ
nonce = 0x01 ∷ 0x23 ∷ 0x45 ∷ 0x67 ∷ 0x89 ∷ 0xab ∷ 0xcd ∷ 0xef ∷ []

-- the tweak of Deoxys-I's tag row for a message of so many bytes
tag_tweak : ℕ → List ℕ
tag_tweak bytes = (tag_row any_key nonce (replicate bytes 0)).tweak

-- the number of rows of a sealing in a suite, of data and message of so many bytes, all zero
rows_of : ℕ → ℕ → ℕ → ℕ
rows_of suite ad message =
    length (sealed suite (replicate (key_length suite) 0) (replicate (nonce_length suite) 0) (replicate ad 0) (replicate message 0)).rows

pub instances : List Instance
instances =
    record { number = 1; computed = map lfsr2 (0x01 ∷ 0x80 ∷ 0x20 ∷ 0xa0 ∷ []); stated = 0x02 ∷ 0x01 ∷ 0x41 ∷ 0x40 ∷ [] }
    ∷ record { number = 2; computed = map lfsr3 (0x01 ∷ 0x40 ∷ 0x41 ∷ []); stated = 0x80 ∷ 0xa0 ∷ 0x20 ∷ [] }
    ∷ record { number = 3; computed = map sub (0x00 ∷ 0x01 ∷ 0x53 ∷ []); stated = 0x63 ∷ 0x7c ∷ 0xed ∷ [] }
    ∷ record {
      number = 4;
      computed = take 8 (mix_columns (0xdb ∷ 0x13 ∷ 0x53 ∷ 0x45 ∷ 0x01 ∷ 0x01 ∷ 0x01 ∷ 0x01 ∷ replicate 8 0));
      stated = 0x8e ∷ 0x4d ∷ 0xa1 ∷ 0xbc ∷ 0x01 ∷ 0x01 ∷ 0x01 ∷ 0x01 ∷ [];
    }
    ∷ record { number = 5; computed = constant_block 16; stated = 0x01 ∷ 0x02 ∷ 0x04 ∷ 0x08 ∷ 0x72 ∷ 0x72 ∷ 0x72 ∷ 0x72 ∷ replicate 8 0 }
    ∷ record {
      number = 6;
      computed = tweak_at (crypt_rows (enciphered any_key) any_key nonce (replicate 96 0)) 5;
      stated = 0x00 ∷ 0x12 ∷ 0x34 ∷ 0x56 ∷ 0x78 ∷ 0x9a ∷ 0xbc ∷ 0xde ∷ 0xf0 ∷ 0 ∷ 0 ∷ 0 ∷ 0 ∷ 0 ∷ 0 ∷ 0x05 ∷ [];
    }
    ∷ record {
      number = 7;
      computed = take 2 (tag_tweak 0) ++ drop 8 (tag_tweak 0);
      stated = 0x10 ∷ 0x12 ∷ 0xf0 ∷ replicate 7 0;
    }
    ∷ record { number = 8; computed = take 2 (tag_tweak 17) ++ drop 15 (tag_tweak 17); stated = 0x50 ∷ 0x12 ∷ 0x02 ∷ [] }
    ∷ record { number = 9; computed = rows_of 1 0 0 ∷ rows_of 2 0 0 ∷ rows_of 3 0 0 ∷ rows_of 4 0 0 ∷ []; stated = 1 ∷ 1 ∷ 1 ∷ 1 ∷ [] }
    ∷ record { number = 10; computed = rows_of 1 17 17 ∷ rows_of 3 17 17 ∷ []; stated = 5 ∷ 7 ∷ [] }
    ∷ record { number = 11; computed = rows_of 1 16 144 ∷ rows_of 3 16 144 ∷ []; stated = 11 ∷ 20 ∷ [] }
    ∷ record {
      number = 12;
      computed = tweak_at (keystream_rows any_key zero_block (replicate 15 0) (replicate 32 0)) 1;
      stated = 0x80 ∷ replicate 14 0 ++ (0x01 ∷ []);
    }
    ∷ []

pub worked_instances : map Instance.computed instances ≡ map Instance.stated instances
unfolding instances rows_of tweak_at any_key tag_tweak nonce lfsr2 lfsr3 sub affine inverse power times double mix_columns mix_byte table each_byte constant_block round_constant nonce_tweak big_endian keystream_tweak ◌⊕◌ zero_block sealed seal_i seal_ii text_rows message_rows keystream_from
worked_instances = refl
