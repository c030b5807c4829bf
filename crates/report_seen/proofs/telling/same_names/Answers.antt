use Rattle.std.proofs.Common.{[], arith}
use Rattle.std.proofs.lemmas.List.{ext_get_or}
use Rattle.report_seen.proofs.telling.same_names.Goals as goal

pub returns-clause-same : goal.returns-clause-same
returns-clause-same c = λ is.
    ext_get_or [] c.args.one.now c.args.other.now (omega (arith, c.if-one-other.false))
    (λ i inside. c.loop-place.invariant i (omega (arith, c.loop-place-test.false, inside)))
