use Rattle.std.proofs.Common.{◌<◌, length, arith}
use Rattle.sig_io.proofs.Drafts.{nothing, same_put, then}
use Rattle.sums_text.specs.Words.{detectors_of}
use Rattle.sums_text.proofs.Served.{number_more}
use Rattle.sums_text.proofs.serves.put_numbers.Goals as goal

pub loop-place-init : goal.loop-place-init
unfolding detectors_of
loop-place-init g c = nothing

pub loop-place-preserved : goal.loop-place-preserved
loop-place-preserved g c =
    let n = c.loop-place.place in
    let inside : n < length c.args.detectors.now = omega (arith, c.loop-place-test.true, c.told-detectors) in
    same_put (number_more c.args.detectors.now n _ inside) (then c.loop-place.invariant (rw (c.from-in-loop-place.ensures, c.from.ensures) at c.put_chosen.ensures))
