-- `deoxys::open` meets its contract: the four ways an opening can go: refused, tag of a wrong length, the tag is the computed one, it is not.
-- Assumes nothing.
use mathlib.Core.Path.{◌≡◌, refl, sym, ap, ◌∙◌}
use mathlib.Core.Bool.{Bool, true, false, false≢true}
use mathlib.Core.List.{List}
use Prim.Native.Nat.{ℕ}
use native.Mathlib.Omega.{arith}
use lib.Seq.{take_all}
use Rattle.octets.specs.Octets.{same}
use Rattle.octets.proofs.Sameness.{same_refl, same_eq}
use Rattle.modes.specs.Rows.{Outcome}
use Rattle.modes.specs.Answers.{answered}
use Rattle.modes.specs.declared.Tagged.{Tagged}
use Rattle.deoxys.specs.Entry.{opened}
use Rattle.suites.proofs.Numbers.{not_none}
use Rattle.deoxys.proofs.Answers.{open_refused, open_tag_length, open_done, open_wrong_tag}
use Rattle.deoxys.proofs.open.Goals as goal

-- the block read is the given tag, and what was computed is the definition's: so they are the same or not as the two blocks are
module _ (made : List ℕ → Outcome) {block tag : List ℕ} {tagged : Tagged} (read : block ≡ tag) (is : tagged ≡ answered (made block)) where
  agreed : block ≡ tagged.tag → same tag (made tag).tag ≡ true
  agreed e =
      let right : tag ≡ (made tag).tag = sym read ∙ e ∙ ap (λ (t : Tagged). t.tag) is ∙ ap (λ (b : List ℕ). (made b).tag) read in
      ap (same tag) (sym right) ∙ same_refl tag

  differed : (block ≡ tagged.tag → ⊥) → same tag (made tag).tag ≡ false
  differed n = by (same tag (made tag).tag) refl
    where
      back : tag ≡ (made tag).tag → block ≡ tagged.tag
      back e = read ∙ e ∙ sym (ap (λ (b : List ℕ). (made b).tag) read) ∙ sym (ap (λ (t : Tagged). t.tag) is)

      by : (b : Bool) → same tag (made tag).tag ≡ b → b ≡ false
      by true e = absurd (n (back (same_eq tag _ e)))
      by false e = refl

unequal : {x y : List ℕ} → same x y ≡ false → x ≡ y → ⊥
unequal {x} {y} h e = false≢true (sym h ∙ ap (same x) (sym e) ∙ same_refl x)

pub returns-in-Err : goal.returns-in-Err
returns-in-Err c = rw (c.number.ensures, c.in-Err.ensures) (open_refused _ _ _ _ _ _ (λ e. not_none _ (c.in-Err.ensures ∙ e)))

pub returns-then-tag-ne16 : goal.returns-then-tag-ne16
returns-then-tag-ne16 c = open_tag_length _ _ _ _ _ _ (sym c.in_default.ensures) (λ e. omega (arith, c.if-tag-ne16.true))

pub returns-then-same_block : goal.returns-then-same_block
returns-then-same_block c =
    let whole = c.read_block-given.ensures ∙ take_all 16 c.args.tag.now (omega arith) in
    let seen = same_eq _ _ (sym c.same_block.ensures ∙ c.if-same_block.true) in
    let right = agreed (opened _ _ _ _ _) whole c.recover-tagged.ensures.value (search (seen, sym seen)) in
    simp (c.recover-tagged.ensures.buffer_after, c.recover-tagged.ensures.value, whole)
    (open_done _ _ _ _ _ _ (sym c.in_default.ensures) (omega arith) right)

pub returns : goal.returns
returns c =
    let whole = c.read_block-given.ensures ∙ take_all 16 c.args.tag.now (omega arith) in
    let seen = unequal (sym c.same_block.ensures ∙ c.if-same_block.false) in
    let wrong = differed (opened _ _ _ _ _) whole c.recover-tagged.ensures.value (λ e. seen (search (e, sym e))) in
    simp (c.clear.ensures, c.recover-tagged.auto.buffer, c.recover-tagged.ensures.value, whole)
    (open_wrong_tag _ _ _ _ _ _ (sym c.in_default.ensures) (omega arith) wrong)
