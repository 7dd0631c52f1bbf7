-- `aes::cipher_round` meets its contract: the four steps; the lent table is that of the S-box (`by_table`).
-- Assumes nothing.
use mathlib.Core.Path.{◌≡◌}
use borrow.Author.Rules.{rules}
use lib.ListN.{get_or}
use Rattle.octets.specs.Octets.{Bytes, each_byte}
use Rattle.octets.proofs.Tables.{byte}
use Rattle.field.specs.Substitution.{sub}
use Rattle.aes.specs.Round.{sub_bytes, round}
use Rattle.aes.proofs.Rounds.{by_table}
use Rattle.aes.proofs.cipher_round.Goals as goal

pub returns : goal.returns
unfolding round sub_bytes
returns c =
    let bytes : Bytes c.args.block = record { at = λ i. byte (search rules) } in
    let read : each_byte (λ x. get_or c.args.entries.now x 0) c.args.block ≡ each_byte sub c.args.block = rw c.requires (by_table sub bytes) in
    cc
