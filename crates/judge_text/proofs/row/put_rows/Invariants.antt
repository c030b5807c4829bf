use Rattle.std.proofs.Common.{take}
use Rattle.std.specs.List.{flat_map}
use Rattle.sig_io.specs.Draft.{Puts}
use Rattle.judge_text.specs.Rows.{row_text}
use Rattle.judge_text.proofs.row.put_rows.Given as goal

abbrev pub invariant-loop-breach : goal.invariant-loop-breach
invariant-loop-breach g l =
    Puts g.O.Sink.taken g.O.Sink.faults l.fn.draft l.draft l.fn.sink l.sink (flat_map (row_text l.plan.names l.tick l.first) (take l.breach-index l.found))
