use Rattle.std.proofs.Common.{take}
use Rattle.sig_io.specs.Draft.{Puts}
use Rattle.vap_ast.specs.Tree.{program_of}
use Rattle.trace_told.specs.Printed.{named_values}
use Rattle.trace_told.proofs.print_lines.put_all.Given as goal

abbrev pub invariant-loop-column : goal.invariant-loop-column
invariant-loop-column g l =
    Puts g.O.Sink.taken g.O.Sink.faults l.fn.draft l.draft l.fn.out l.out
    (named_values (program_of l.checked.tree) l.sight.state.store (take l.column-index l.columns))
