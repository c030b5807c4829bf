use Rattle.sig_io.specs.Draft.{Puts}
use Rattle.judge_text.specs.Sums.{others_to}
use Rattle.judge_text.proofs.sums.put_others.Given as goal

abbrev pub invariant-loop-other : goal.invariant-loop-other
invariant-loop-other g l =
    Puts g.O.Sink.taken g.O.Sink.faults l.fn.draft l.draft l.fn.sink l.sink (others_to l.plan.names l.found l.rule l.group l.other)
