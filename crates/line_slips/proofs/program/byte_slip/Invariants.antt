use Rattle.std.proofs.Common.{◌≡◌, drop}
use Rattle.line_slips.specs.Comments.{line_start}
use Rattle.line_slips.specs.ProgramSlips.{first_slip}
use Rattle.line_slips.proofs.program.byte_slip.Given as goal

abbrev pub invariant-loop-b : goal.invariant-loop-b
invariant-loop-b l = first_slip (line_start l.line) l.line ≡ first_slip l.at (drop l.b-index l.line)
