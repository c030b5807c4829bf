use Rattle.std.proofs.Common.{◌≡◌, map, take}
use Rattle.trace_lines.specs.Lcov.{taken_of}
use Rattle.trace_lines.specs.Lines.{line_in, total_by}
use Rattle.trace_lines.proofs.lcov.all_taken.Given as goal

abbrev pub invariant-loop-line : goal.invariant-loop-line
invariant-loop-line l = l.taken ≡ total_by taken_of (map line_in (take l.line-index l.lines))
