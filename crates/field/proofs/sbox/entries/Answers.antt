-- `field::sbox::entries` meets its contract: THE test of the table: each entry is the affine rule of the inverse of its place.
-- Assumes nothing.
use mathlib.Core.Path.{refl, sym, ◌∙◌}
use lib.ListN.{get_or}
use Rattle.octets.proofs.Tables.{table_tested, table_eq}
use Rattle.field.specs.Substitution.{affine, sub}
use Rattle.field.proofs.Inverses.{inverses}
use Rattle.field.proofs.Substitution.{sub_at}
use Rattle.field.proofs.sbox.entries.Goals as goal

pub returns : goal.returns
unfolding inverses affine
returns c = table_tested (λ k. affine (get_or inverses k 0)) 256 _ refl tt ∙ table_eq _ sub 256 (λ k h. sym (sub_at k h))
