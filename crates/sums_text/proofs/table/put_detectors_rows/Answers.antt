use Rattle.std.proofs.Common.{◌<◌, length, arith}
use Rattle.sig_io.proofs.Drafts.{nothing, same_put, then}
use Rattle.sums_text.specs.Table.{detectors_rows, span_of}
use Rattle.sums_text.proofs.TableRows.{detectors_more}
use Rattle.sums_text.proofs.table.put_detectors_rows.Goals as goal

pub loop-place-init : goal.loop-place-init
unfolding detectors_rows
loop-place-init g c = nothing

pub loop-place-preserved : goal.loop-place-preserved
loop-place-preserved g c =
    let i = c.loop-place.invariant in
    let n = c.loop-place.place in
    let x = c.args.sums.now in
    let inside : n < length c.args.named.now = omega (arith, c.loop-place-test.true, c.told-named) in
    let has : n < length c.args.detectors.now = omega (arith, c.loop-place-test.true, c.told-detectors) in
    same_put
    (detectors_more (span_of x) c.args.named.now c.args.detectors.now n _ c.is_named.result _ _ inside has (rw c.from.ensures at c.lead_of.ensures)
    (rw c.from-at.ensures at c.is_named.ensures))
    (then i (rw c.from-at.ensures at c.put_detector_rows.ensures))
