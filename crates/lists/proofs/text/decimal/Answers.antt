-- `lists::text::decimal`: a byte that is no digit, a digit, and the end.
use Rattle.std.proofs.Common.{◌<◌, sym, ◌∙◌, length, arith, rules}
use Rattle.lists.proofs.Spelling.{number_stops, number_goes_on, number_ends, some_digits}
use Rattle.lists.proofs.text.decimal.Goals as goal

pub returns-in_err-n : goal.returns-in_err-n
returns-in_err-n c =
    let s = c.args.field.now in
    let h : c.loop-byte.byte-index < length s = omega arith in
    c.from_residual.ensures
    ∙ sym (number_stops c.loop-byte.n s c.loop-byte.byte-index h (sym c.with_digit.ensures ∙ c.in_err-n.was))
    ∙ c.loop-byte.invariant
    ∙ sym (some_digits s (search rules))

pub loop-byte-preserved : goal.loop-byte-preserved
loop-byte-preserved c =
    let s = c.args.field.now in
    let h : c.loop-byte.byte-index < length s = omega arith in
    sym (number_goes_on c.loop-byte.n s c.loop-byte.byte-index c.in_ok-n.n h (sym c.with_digit.ensures ∙ c.in_ok-n.was)) ∙ c.loop-byte.invariant

pub returns : goal.returns
returns c =
    let s = c.args.field.now in
    sym (number_ends c.loop-byte.n s c.loop-byte.byte-index (omega arith)) ∙ c.loop-byte.invariant ∙ sym (some_digits s (search rules))
