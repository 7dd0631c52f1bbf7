-- `deoxys_i::checksum` meets its contract: after some blocks the sum is the fold over them.
-- Assumes nothing.
use Rattle.std.proofs.Common.{◌≡◌, take}
use Rattle.std.specs.List.{fold}
use Rattle.octets.specs.Octets.{◌⊕◌}
use Rattle.deoxys_i.proofs.checksum.Given as goal

abbrev pub invariant-loop-block : goal.invariant-loop-block
invariant-loop-block l = l.sum ≡ fold (λ sum block. sum ⊕ block) l.fn.from (take l.block-index l.blocks)
