use Rattle.std.proofs.Common.{◌<◌, length, arith}
use Rattle.sig_io.proofs.Drafts.{nothing, same_put, then}
use Rattle.sums_text.specs.Words.{detectors_text}
use Rattle.sums_text.proofs.Groups.{detectors_more}
use Rattle.sums_text.proofs.rows.put_detectors.Goals as goal

pub loop-place-init : goal.loop-place-init
unfolding detectors_text
loop-place-init g c = nothing

pub loop-place-preserved : goal.loop-place-preserved
loop-place-preserved g c =
    let i = c.loop-place.invariant in
    let n = c.loop-place.place in
    let inside : n < length c.args.named.now = omega (arith, c.loop-place-test.true, c.told-named) in
    let has : n < length c.args.detectors.now = omega (arith, c.loop-place-test.true, c.told-detectors) in
    same_put
    (detectors_more c.args.named.now c.args.detectors.now n c.is_named.result _ _ inside has (rw c.from-at.ensures at c.is_named.ensures))
    (then i (rw (c.from.ensures, c.from-at.ensures) at c.put_detector.ensures))
