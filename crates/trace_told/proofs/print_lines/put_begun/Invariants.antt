use Rattle.std.proofs.Common.{map, take}
use Rattle.std.specs.List.{flat_map}
use Rattle.sig_io.specs.Draft.{Puts}
use Rattle.vap_ast.specs.Tree.{program_of}
use Rattle.trace_told.specs.Printed.{printed_by}
use Rattle.trace_told.specs.Traces.{trace_in}
use Rattle.trace_told.proofs.print_lines.put_begun.Given as goal

abbrev pub invariant-loop-trace : goal.invariant-loop-trace
invariant-loop-trace g l =
    Puts g.O.Sink.taken g.O.Sink.faults l.fn.draft l.draft l.fn.out l.out
    (flat_map (printed_by (program_of l.checked.tree) l.second l.sight.state) (map trace_in (take l.trace-index l.traces)))
