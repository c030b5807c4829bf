use Rattle.std.proofs.Common.{◌≡◌, ◌++◌, drop}
use Rattle.program_check.specs.Warnings.{detector_reads}
use Rattle.program_check.proofs.unread.detector_reads.Given as goal

abbrev pub invariant-loop-call : goal.invariant-loop-call
invariant-loop-call l = l.reads.items ++ detector_reads (drop l.call-index l.calls) ≡ detector_reads l.calls
