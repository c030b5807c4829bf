use Rattle.std.proofs.Common.{◌≡◌}
use Rattle.sig_io.specs.Draft.{FailsOnly}
use Rattle.junction_live.proofs.Running.{Running}
use Rattle.junction_live.proofs.seconds.put_seconds.Given as goal

abbrev pub invariant-loop-k : goal.invariant-loop-k
invariant-loop-k g l =
    (l.tick.table ≡ l.fn.tick.table)
    × Running (g.A.Audience.given l.fn.audience l.audience) l.k l.tick l.fn.controller l.controller
    (g.O.Sink.taken l.fn.out) (g.O.Sink.taken l.out) l.fn.draft l.draft
    × FailsOnly (g.O.Sink.faults l.fn.out) (g.O.Sink.faults l.out) l.fn.draft.failed l.draft.failed
