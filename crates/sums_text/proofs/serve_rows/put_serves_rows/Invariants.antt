use Rattle.std.proofs.Common.{take}
use Rattle.sig_io.specs.Draft.{Puts}
use Rattle.std.specs.List.{flat_map}
use Rattle.sums_text.specs.Table.{serve_rows, span_of}
use Rattle.sums_text.proofs.serve_rows.put_serves_rows.Given as goal

abbrev pub invariant-loop-served : goal.invariant-loop-served
invariant-loop-served g l =
    Puts g.O.Sink.taken g.O.Sink.faults l.fn.draft l.draft l.fn.sink l.sink
    (flat_map (serve_rows (span_of l.sums) l.names) (take l.served-index l.sums.serves.items))
