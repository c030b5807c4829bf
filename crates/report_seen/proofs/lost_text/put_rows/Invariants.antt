use Rattle.std.proofs.Common.{take}
use Rattle.sig_io.specs.Draft.{Puts}
use Rattle.std.specs.List.{flat_map}
use Rattle.report_seen.specs.LostText.{lost_row}
use Rattle.report_seen.proofs.lost_text.put_rows.Given as goal

abbrev pub invariant-loop-start : goal.invariant-loop-start
invariant-loop-start g l =
    Puts g.O.Sink.taken g.O.Sink.faults l.fn.draft l.draft l.fn.sink l.sink (flat_map (lost_row l.names) (take l.start-index l.starts))
