use Rattle.std.proofs.Common.{◌≡◌, ◌≤◌, map, take}
use Rattle.std.specs.Prelude.{count_by}
use Rattle.trace_lines.specs.Lcov.{was_reached}
use Rattle.trace_lines.specs.Lines.{line_in}
use Rattle.trace_lines.proofs.lcov.reached.Given as goal

abbrev pub invariant-loop-line : goal.invariant-loop-line
invariant-loop-line l = (l.reached ≡ count_by was_reached (map line_in (take l.line-index l.lines))) × (l.reached ≤ l.line-index)
