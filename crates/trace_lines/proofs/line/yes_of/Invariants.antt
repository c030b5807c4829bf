use Rattle.std.proofs.Common.{◌≡◌, take}
use Rattle.trace_lines.specs.Lines.{yes_of, total_by}
use Rattle.trace_lines.proofs.line.yes_of.Given as goal

abbrev pub invariant-loop-test : goal.invariant-loop-test
invariant-loop-test l = l.total ≡ total_by yes_of (take l.test-index l.tests)
