use Rattle.std.proofs.Common.{take}
use Rattle.sig_io.specs.Draft.{Puts}
use Rattle.trace_lines.specs.Lcov.{tests_text}
use Rattle.trace_lines.proofs.lcov.put_tests.Given as goal

abbrev pub invariant-loop-block : goal.invariant-loop-block
invariant-loop-block g l = Puts g.O.Sink.taken g.O.Sink.faults l.fn.draft l.draft l.fn.out l.out (tests_text l.line 0 (take l.block l.tests))
