use Rattle.sig_io.specs.Draft.{Puts}
use Rattle.refusal_text.specs.Sums.{groups_to}
use Rattle.refusal_text.proofs.sums.put_groups.Given as goal

abbrev pub invariant-loop-group : goal.invariant-loop-group
invariant-loop-group g l =
    Puts g.O.Sink.taken g.O.Sink.faults l.fn.draft l.draft l.fn.sink l.sink (groups_to l.plan.names l.found l.group)
