-- `record::reader::read_bundle` meets its contract: what is left from here on, with the records so far, is the whole bundle.
-- Assumes nothing.
use Rattle.record.specs.HouseRecord.{take_records, bundle_reading}
use Rattle.record.proofs.Bundles.{counted_from}
use mathlib.Core.Path.{◌≡◌}
use Prim.Native.Nat.{◌-◌, ◌≤◌}
use lib.ListN.{length, drop}
use Rattle.record.proofs.reader.read_bundle.Given as goal

abbrev pub invariant-loop-at : goal.invariant-loop-at
invariant-loop-at l = (counted_from l.records (take_records (64 - l.records) (drop l.at l.bytes)) ≡ bundle_reading l.bytes) × (l.at ≤ length l.bytes) × (l.records ≤ 64)

abbrev pub decreases-loop-at : goal.decreases-loop-at
decreases-loop-at l = 64 - l.records
