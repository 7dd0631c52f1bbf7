-- `record::reader::read_bundle` meets its contract: what is left from here on, with the records so far, is the whole bundle.
-- Assumes nothing.
use Rattle.record.proofs.Bundles.{was_refused, was_read, from_none, bundle_end, bundle_full, bundle_bad, bundle_next}
use mathlib.Core.Path.{◌∙◌}
use Prim.Native.Nat.{◌+◌}
use native.Mathlib.Omega.{arith}
use borrow.Author.Rules.{rules}
use Rattle.record.proofs.reader.read_bundle.Goals as goal

pub loop-at-init : goal.loop-at-init
loop-at-init c = (from_none c.args.bytes.now, search rules, search rules)

pub returns-then-records-eq-MOST_RECORDS : goal.returns-then-records-eq-MOST_RECORDS
returns-then-records-eq-MOST_RECORDS c = c.no_bundle.ensures ∙ bundle_full c.args.bytes.now c.loop-at.at c.loop-at.records c.loop-at.invariant.0 c.loop-at-test.true
    c.if-records-eq-MOST_RECORDS.true

pub returns-then-record-ne0 : goal.returns-then-record-ne0
returns-then-record-ne0 c =
    let l = c.loop-at in
    c.no_bundle-then-record-ne0.ensures ∙ bundle_bad c.args.bytes.now l.at l.records l.invariant.0 c.loop-at-test.true
    (omega (arith, l.invariant.2, c.if-records-eq-MOST_RECORDS.false)) _ (was_refused c.args.bytes.now l.at _ c.read-record.ensures c.if-record-ne0.true)

pub overflow_add-at : goal.overflow_add-at
overflow_add-at c =
    let l = c.loop-at in
    let f = was_read c.args.bytes.now l.at _ c.read-record.ensures c.if-record-ne0.false in
    let h = f.within in
    search (h, rules)

pub loop-at-preserved : goal.loop-at-preserved
loop-at-preserved c =
    let l = c.loop-at in
    let f = was_read c.args.bytes.now l.at _ c.read-record.ensures c.if-record-ne0.false in (
      bundle_next c.args.bytes.now l.at l.records l.invariant.0 c.loop-at-test.true (omega (arith, l.invariant.2, c.if-records-eq-MOST_RECORDS.false))
          f.content (l.at + c.read-record.result.length) f.taken,
      omega (arith, f.within, c.loop-at-test.true),
      omega (arith, l.invariant.2, c.if-records-eq-MOST_RECORDS.false),
    )

pub returns : goal.returns
returns c =
    let l = c.loop-at in
    bundle_end c.args.bytes.now l.at l.records l.invariant.0 (omega (arith, c.loop-at-test.false))
