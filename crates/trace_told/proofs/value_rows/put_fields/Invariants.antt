use Rattle.std.proofs.Common.{take}
use Rattle.sig_io.specs.Draft.{Puts}
use Rattle.trace_told.specs.ValueRows.{value_fields}
use Rattle.trace_told.proofs.value_rows.put_fields.Given as goal

abbrev pub invariant-loop-column : goal.invariant-loop-column
invariant-loop-column g l =
    Puts g.O.Sink.taken g.O.Sink.faults l.fn.draft l.draft l.fn.out l.out (value_fields l.vm.store (take l.column-index l.columns))
