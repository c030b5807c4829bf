use Rattle.sig_io.specs.Draft.{Puts}
use Rattle.judge_text.specs.Sums.{alone_to}
use Rattle.judge_text.proofs.sums.put_alone.Given as goal

abbrev pub invariant-loop-group : goal.invariant-loop-group
invariant-loop-group g l =
    Puts g.O.Sink.taken g.O.Sink.faults l.fn.draft l.draft l.fn.sink l.sink (alone_to l.plan.names l.found l.rule l.group)
