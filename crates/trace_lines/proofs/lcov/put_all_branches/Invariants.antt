use Rattle.std.proofs.Common.{map, take}
use Rattle.std.specs.List.{flat_map}
use Rattle.sig_io.specs.Draft.{Puts}
use Rattle.trace_lines.specs.Lcov.{branches_text}
use Rattle.trace_lines.specs.Lines.{line_in}
use Rattle.trace_lines.proofs.lcov.put_all_branches.Given as goal

abbrev pub invariant-loop-line : goal.invariant-loop-line
invariant-loop-line g l =
    Puts g.O.Sink.taken g.O.Sink.faults l.fn.draft l.draft l.fn.out l.out (flat_map branches_text (map line_in (take l.line-index l.lines)))
