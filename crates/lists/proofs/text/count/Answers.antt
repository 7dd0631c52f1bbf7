-- `lists::text::count`: so far as often as the byte stands in what was seen.
use Rattle.std.proofs.Common.{◌≡◌, ◌+◌, ◌∙◌, ap, sym, arith, rules, true, false, ℕ}
use Rattle.std.specs.Prelude.{eqb, get_or}
use Rattle.std.proofs.lemmas.Grind.{common_steps}
use Rattle.std.proofs.lemmas.List.Sums.{count_by_more_no, count_by_more_yes}
use Rattle.lists.proofs.text.count.Goals as goal
use Rattle.lists.proofs.text.count.Goals.{then-b-byte, else-b-byte}

pub loop-b-preserved : goal.loop-b-preserved
loop-b-preserved c =
    let s = c.args.text.now in
    let i = c.loop-b.b-index in
    let b = c.args.byte in
    elim c.if-b-byte.branch [
      | then-b-byte w ↦
          let q : eqb (get_or s i 0) b ≡ true = grind (arith, common_steps) in
          w.n-is ∙ ap (λ (n : ℕ). n + 1) c.loop-b.invariant ∙ sym (count_by_more_yes (λ x. eqb x b) s i 0 (search rules) q)
      | else-b-byte w ↦
          let q : eqb (get_or s i 0) b ≡ false = grind (arith, common_steps) in
          w.n-is ∙ c.loop-b.invariant ∙ sym (count_by_more_no (λ x. eqb x b) s i 0 (search rules) q)
    ]
