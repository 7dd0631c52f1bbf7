-- `lists::text::part`: each turn takes a part off the front of what is left.
use Rattle.std.proofs.Common.{◌≡◌, ◌-◌, ◌+◌, ◌∙◌, arith, sym, suc, drop}
use Rattle.lists.specs.Text.{index_of}
use Rattle.lists.proofs.Parts.{first_part, next_part}
use Rattle.lists.proofs.text.part.Goals as goal

pub loop-preserved : goal.loop-preserved
loop-preserved c =
    let a = c.args in
    let l = c.loop in
    let e : a.k - l.counter ≡ suc (a.k - (l.counter + 1)) = omega arith in (
      c.next-from.ensures.upper_bound,
      rw c.next-from.ensures.text_value (sym (next_part a.separator (a.k - (l.counter + 1)) (drop l.from a.text.now))) ∙ (rw e at l.invariant.1),
    )

pub returns : goal.returns
returns c =
    let a = c.args in
    let l = c.loop in
    let e : a.k - l.counter ≡ 0 = omega arith in
    let n : c.find.result - l.from ≡ index_of a.separator (drop l.from a.text.now) = omega (arith, c.find.ensures.value) in
    rw n (sym (first_part a.separator (drop l.from a.text.now))) ∙ (rw e at l.invariant.1)
