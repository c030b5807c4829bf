use Rattle.std.proofs.Common.{◌≡◌, drop}
use Rattle.line_slips.specs.Bytes.{begins_with_two, somewhere}
use Rattle.line_slips.proofs.bytes.has_two_spaces.Given as goal

abbrev pub invariant-loop-i : goal.invariant-loop-i
invariant-loop-i l = somewhere begins_with_two l.line ≡ somewhere begins_with_two (drop l.i l.line)
