use Rattle.std.proofs.Common.{take}
use Rattle.sig_io.specs.Draft.{Puts}
use Rattle.sums_text.specs.Table.{groups_rows, span_of}
use Rattle.sums_text.proofs.group_rows.put_groups_rows.Given as goal

abbrev pub invariant-loop-place : goal.invariant-loop-place
invariant-loop-place g l =
    Puts g.O.Sink.taken g.O.Sink.faults l.fn.draft l.draft l.fn.sink l.sink
    (groups_rows (span_of l.sums) l.sums.goes_on l.sums.seconds l.counted (take l.place l.names) l.groups)
