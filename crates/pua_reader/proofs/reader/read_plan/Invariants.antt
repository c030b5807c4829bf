use Rattle.std.proofs.Common.{length}
use Rattle.std.specs.Str.Lines.{lines}
use Rattle.pua_reader.specs.Accepted.{lines_in}
use Rattle.pua_reader.specs.Views.{draft_value}
use Rattle.pua_reader.proofs.Reading.{Reads}
use Rattle.pua_reader.proofs.reader.read_plan.Given as goal

abbrev pub invariant-loop-rest : goal.invariant-loop-rest
invariant-loop-rest l = Reads (lines_in l.fn.bytes) (lines l.rest) (draft_value l.draft)

abbrev pub decreases-loop-rest : goal.decreases-loop-rest
decreases-loop-rest l = length l.rest
