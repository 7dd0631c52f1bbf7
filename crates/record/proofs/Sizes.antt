-- How long a record is.
-- Assumes nothing.
use mathlib.Core.Path.{◌≡◌}
use Prim.Native.Nat.{◌+◌}
use native.Mathlib.Omega.{arith}
use lib.ListN.{length, length-append}
use Rattle.octets.specs.Octets.{big_endian}
use Rattle.fields.specs.Fields.{field, fields}
use Rattle.record.specs.HouseRecord.{Content, written}

pub written-length : (c : Content) → length (written c) ≡ 21 + length c.nonce + length c.note + length c.cipher + length c.tag
unfolding written fields field big_endian
written-length c = simp length-append (omega arith)
