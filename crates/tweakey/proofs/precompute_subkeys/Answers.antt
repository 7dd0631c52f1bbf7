-- `tweakey::precompute_subkeys` meets its contract: a key that is not of 16 bytes is of 32.
-- Assumes nothing.
use mathlib.Core.Logic.{◌⊎◌, ⊎_elim}
use mathlib.Core.Path.{◌≡◌, ◌∙◌}
use Prim.Native.Nat.{ℕ}
use lib.Seq.{take_all}
use borrow.Author.Rules.{rules}
use Rattle.octets.specs.Octets.{Block}
use Rattle.octets.proofs.Tables.{byte}
use Rattle.tweakey.proofs.Tweakeys.{expanded_16, expanded_32}
use Rattle.tweakey.proofs.precompute_subkeys.Goals as goal

long : {n : ℕ} → (n ≡ 16) ⊎ (n ≡ 32) → (n ≡ 16 → ⊥) → n ≡ 32
long sized other = ⊎_elim (λ e. absurd (other e)) (λ e. e) sized

pub returns-then-key-eq16 : goal.returns-then-key-eq16
returns-then-key-eq16 c =
    let whole = take_all 16 c.args.key.now (search rules) in
    let key : Block c.args.key.now =
    record { size = c.if-key-eq16.true; bytes = record { at = λ i. byte (search rules) } } in
    c.expand.ensures ∙ rw (c.read_block.ensures, whole) (expanded_16 key)

pub returns : goal.returns
returns c =
    let e = long c.requires c.if-key-eq16.false in
    c.expand-2.ensures
    ∙ rw (c.read_block-3.ensures, c.read_block-2.ensures)
    (expanded_32 c.args.key.now e)
