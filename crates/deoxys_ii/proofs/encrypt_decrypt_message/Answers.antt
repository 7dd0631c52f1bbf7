-- `deoxys_ii::encrypt_decrypt_message` meets its contract: what is still to do of the buffer, from where the loop stands,
-- gives what there was to do at first.
-- Assumes nothing.
use mathlib.Core.Path.{◌≡◌, ap, ◌∙◌}
use mathlib.Core.List.{List}
use Prim.Native.Nat.{ℕ, ◌/◌}
use native.Mathlib.Omega.{arith}
use lib.ListN.{length}
use borrow.Author.Rules.{rules}
use Rattle.octets.specs.Octets.{◌⊕◌}
use Rattle.octets.proofs.Parts.{rest_is, rest_put}
use Rattle.deoxys_bc.specs.declared.Called.{Called}
use Rattle.modes.proofs.Counts.{counted}
use Rattle.deoxys_ii.proofs.Keystream.{stream_turn, stream_part, stream_none}
use Rattle.deoxys_ii.proofs.encrypt_decrypt_message.Goals as goal

xored : (s : List ℕ) {part b b' : List ℕ} → part ≡ s ⊕ b → b ≡ b' → part ≡ s ⊕ b'
xored s p e = p ∙ ap (λ (x : List ℕ). s ⊕ x) e

pub loop-j-preserved : goal.loop-j-preserved
loop-j-preserved c =
    let l = c.loop-j in
    let made = rw c.prefixed-block.ensures at c.encrypt_decrypt_block-called.ensures in
    let block = ap (λ (r : Called). r.block) made in
    let size : length c.encrypt_decrypt_block-called.result.block ≡ 16 = search rules in
    let written = xored _ c.xor_into.ensures block in
    let t = stream_turn _ _ _ _ _ _ _ _ _ l.invariant.left _ (omega arith) (omega arith) (rw block at size) written in
    rw made (record { left = t; size = omega arith; counted = omega arith })

pub returns-then-at-buffer : goal.returns-then-at-buffer
returns-then-at-buffer c =
    let l = c.loop-j in
    let e : l.j ≡ length c.args.buffer.now / 16 = omega arith in
    let t = stream_part _ _ _ _ _ _ _ _ _ l.invariant.left (omega arith) in
    rw (
      rest_put,
      c.xor_into-then-at-buffer.ensures,
      c.encrypt_decrypt_block-called-then-at-buffer.ensures,
      c.prefixed-block.ensures,
      rest_is,
      ← e,
    )
    (record { value = counted t.0; buffer_after = t.1 })

pub returns : goal.returns
returns c =
    let l = c.loop-j in
    let t = stream_none _ _ _ _ _ _ _ _ _ l.invariant.left (omega arith) (omega arith) in
    record { value = counted t.0; buffer_after = t.1 }
