-- `aes::inv_mix_columns` meets its contract: it mixes the folded columns, which is inverse mixing (`mix_folded`).
-- Assumes nothing.
use mathlib.Core.Path.{◌≡◌, ap, ◌∙◌}
use lib.ListN.{length}
use borrow.Author.Rules.{rules}
use Rattle.octets.proofs.Tables.{byte}
use Rattle.aes.specs.Round.{mix_columns}
use Rattle.aes.proofs.Mixing.{folded_is, mix_folded}
use Rattle.aes.proofs.inv_mix_columns.Goals as goal

pub returns : goal.returns
returns c =
    let block = c.args.block in
    let size : length block ≡ 16 = search rules in
    rw (
      c.mix_columns.ensures,
      c.xor_block-2.ensures,
      c.double_bytes-fourfold.ensures,
      c.double_bytes.ensures,
      c.xor_block.ensures,
      c.turn_columns-opposite.ensures,
    )
    (ap mix_columns (folded_is block size) ∙ mix_folded (record { at = λ i. byte (search rules) }))
