use Rattle.std.proofs.Common.{take}
use Rattle.sig_io.specs.Draft.{Puts}
use Rattle.vap_ast.specs.Tree.{program_of}
use Rattle.trace_told.specs.ValueRows.{label_fields}
use Rattle.trace_told.proofs.value_rows.put_label_fields.Given as goal

abbrev pub invariant-loop-column : goal.invariant-loop-column
invariant-loop-column g l =
    Puts g.O.Sink.taken g.O.Sink.faults l.fn.draft l.draft l.fn.out l.out (label_fields (program_of l.checked.tree) (take l.column-index l.columns))
