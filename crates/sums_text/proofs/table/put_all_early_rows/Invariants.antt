use Rattle.std.proofs.Common.{take}
use Rattle.sig_io.specs.Draft.{Puts}
use Rattle.std.specs.List.{flat_map}
use Rattle.sums_text.specs.Table.{early_rows, span_of}
use Rattle.sums_text.proofs.table.put_all_early_rows.Given as goal

abbrev pub invariant-loop-tally : goal.invariant-loop-tally
invariant-loop-tally g l =
    Puts g.O.Sink.taken g.O.Sink.faults l.fn.draft l.draft l.fn.sink l.sink (flat_map (early_rows (span_of l.sums) l.names) (take l.tally-index l.sums.early.items))
