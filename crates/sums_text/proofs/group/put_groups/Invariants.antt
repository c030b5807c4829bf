use Rattle.std.proofs.Common.{take}
use Rattle.sig_io.specs.Draft.{Puts}
use Rattle.sums_text.specs.Words.{groups_text}
use Rattle.sums_text.proofs.group.put_groups.Given as goal

abbrev pub invariant-loop-place : goal.invariant-loop-place
invariant-loop-place g l =
    Puts g.O.Sink.taken g.O.Sink.faults l.fn.draft l.draft l.fn.sink l.sink
    (groups_text l.goes_on l.seconds l.counted (take l.place l.names) l.groups)
