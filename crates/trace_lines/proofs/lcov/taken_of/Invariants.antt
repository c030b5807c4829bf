use Rattle.std.proofs.Common.{◌≡◌, take}
use Rattle.trace_lines.specs.Lcov.{taken_in}
use Rattle.trace_lines.specs.Lines.{total_by}
use Rattle.trace_lines.proofs.lcov.taken_of.Given as goal

abbrev pub invariant-loop-test : goal.invariant-loop-test
invariant-loop-test l = l.taken ≡ total_by taken_in (take l.test-index l.tests)
