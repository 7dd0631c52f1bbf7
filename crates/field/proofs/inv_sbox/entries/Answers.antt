-- `field::inv_sbox::entries` meets its contract: THE test of the table: each entry is the inverse of the affine rule undone at its place.
-- Assumes nothing.
use mathlib.Core.Path.{refl, sym, ◌∙◌}
use lib.ListN.{get_or}
use Rattle.octets.proofs.Tables.{table_tested, table_eq}
use Rattle.field.specs.Substitution.{unaffine, inv_sub}
use Rattle.field.proofs.Inverses.{inverses}
use Rattle.field.proofs.Substitution.{inv_sub_at}
use Rattle.field.proofs.inv_sbox.entries.Goals as goal

pub returns : goal.returns
unfolding inverses unaffine
returns c = table_tested (λ k. get_or inverses (unaffine k) 0) 256 _ refl tt ∙ table_eq _ inv_sub 256 (λ k h. sym (inv_sub_at k h))
