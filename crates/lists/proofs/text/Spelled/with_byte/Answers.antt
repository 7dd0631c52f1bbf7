-- `lists::text::Spelled::with_byte`: the byte is laid after those that are there.
use Rattle.std.proofs.Common.{rules}
use Rattle.lists.proofs.Spelling.{adds_byte}
use Rattle.lists.proofs.text.Spelled.with_byte.Goals as goal

pub returns : goal.returns
returns c = adds_byte _ _ _ c.in_ok-byte.ensures.small c.in_ok-digit.ensures.value c.in_ok-byte.ensures.value (search rules) (search rules)
