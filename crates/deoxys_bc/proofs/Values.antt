-- The last round mixes too (document 01, "Mistakes that look right"), by values: one round with round keys of zeros.
-- Assumes nothing.
use mathlib.Core.Path.{◌≡◌, refl}
use mathlib.Core.List.{◌∷◌}
use lib.ListN.{replicate}
use Rattle.octets.specs.Octets.{◌⊕◌, table, each_byte, zero_block}
use Rattle.field.specs.Field.{double, times, power, inverse}
use Rattle.field.specs.Substitution.{affine, sub}
use Rattle.aes.specs.Round.{sub_bytes, shift_rows, mix_byte, mix_columns, unmix_byte, inv_mix_columns, round}
use Rattle.tweakey.specs.declared.Subkeys.{Subkeys}
use Rattle.tweakey.specs.Tweakey.{tweak_after, h, places, round_key}
use Rattle.deoxys_bc.specs.Cipher.{after_rounds, encipher}

abbrev one_round : Subkeys
one_round = record { bytes = replicate 272 0; rounds = 1 }

-- the block 01 00 .. 00: substituted, its first column is 7C 63 63 63, and mixed
pub last_round_mixes : encipher one_round zero_block (0x01 ∷ replicate 15 0) ≡ 0x5d ∷ 0x7c ∷ 0x7c ∷ 0x42 ∷ replicate 12 0x63
unfolding zero_block encipher after_rounds round round_key tweak_after h places sub_bytes shift_rows mix_columns mix_byte inv_mix_columns unmix_byte table each_byte ◌⊕◌ sub affine inverse power times double
last_round_mixes = refl
