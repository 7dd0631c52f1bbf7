-- `aes::mix_byte` meets its contract: one doubling for 2•a ⊕ 3•b ⊕ c ⊕ d (`mix_by_double`).
-- Assumes nothing.
use borrow.Author.Rules.{rules}
use Rattle.aes.proofs.Mixing.{mix_by_double}
use Rattle.aes.proofs.mix_byte.Goals as goal

pub returns : goal.returns
returns c =
    let a = c.args in
    rw c.double.ensures (mix_by_double a.a a.b a.c a.d (search rules) (search rules) (search rules) (search rules))
