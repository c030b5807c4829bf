use Rattle.std.proofs.Common.{◌≡◌, drop}
use Rattle.line_slips.specs.Bytes.{begins_with_decimal, somewhere}
use Rattle.line_slips.proofs.bytes.has_decimal.Given as goal

abbrev pub invariant-loop-i : goal.invariant-loop-i
invariant-loop-i l = somewhere begins_with_decimal l.line ≡ somewhere begins_with_decimal (drop l.i l.line)
