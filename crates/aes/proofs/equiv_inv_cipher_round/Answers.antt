-- `aes::equiv_inv_cipher_round` meets its contract: the four steps; the lent table is that of the inverse S-box (`by_table`).
-- Assumes nothing.
use borrow.Author.Rules.{rules}
use Rattle.octets.specs.Octets.{Bytes}
use Rattle.octets.proofs.Tables.{byte}
use Rattle.field.specs.Substitution.{inv_sub}
use Rattle.aes.specs.Round.{inv_sub_bytes, equiv_inv_round}
use Rattle.aes.proofs.Rounds.{by_table}
use Rattle.aes.proofs.equiv_inv_cipher_round.Goals as goal

pub returns : goal.returns
unfolding equiv_inv_round inv_sub_bytes
returns c =
    let bytes : Bytes c.args.block = record { at = λ i. byte (search rules) } in
    simp (
      c.xor_block.ensures,
      c.inv_mix_columns.ensures,
      c.inv_shift_rows.ensures,
      c.substitute.ensures,
      c.requires,
      by_table inv_sub bytes,
    )
