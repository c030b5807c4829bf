use Rattle.std.proofs.Common.{arith}
use Rattle.std.proofs.lemmas.List.{ext_get_or}
use Rattle.log_compare.proofs.alike.same_frame.Goals as goal

pub returns-clause-same : goal.returns-clause-same
returns-clause-same c = λ is.
    let sizes = c.loop-place.invariant.sizes (omega (arith, c.loop-place-test.false)) in
    ext_get_or (0, 0) c.args.one.now c.args.other.now (omega (arith, sizes.0, sizes.1))
    (λ i inside. c.loop-place.invariant.same i (omega (arith, c.loop-place-test.false, sizes.0, inside)))
