-- `numerals::spelt` meets its contract: the value is what the digits read so far spell, or one above the limit.
-- Assumes nothing.
use Rattle.std.proofs.Common.{arith, rules}
use Rattle.std.proofs.lemmas.Bool.Decides.{nat_tests}
use Rattle.numerals.proofs.Spelling.{reading_turn, no_digit, reading_end, no_bytes}
use Rattle.numerals.proofs.spelt.Goals as goal

pub returns-then-is_empty : goal.returns-then-is_empty
returns-then-is_empty c = no_bytes _ (grind (arith, nat_tests))

pub returns-then-not-is_ascii_digit : goal.returns-then-not-is_ascii_digit
returns-then-not-is_ascii_digit c =
    no_digit _ _ _ c.loop-byte.invariant (search rules) c.if-not-is_ascii_digit.ensures.cases

pub loop-byte-preserved : goal.loop-byte-preserved
loop-byte-preserved c =
    let d = c.if-not-is_ascii_digit.ensures.cases in
    rw (c.min-value.ensures, c.from.ensures)
    (reading_turn _ _ _ c.loop-byte.invariant (search rules) (omega (arith, d)) (omega (arith, d)))

pub returns : goal.returns
returns c = reading_end _ _ _ c.loop-byte.invariant (grind (arith, nat_tests)) (search rules)
