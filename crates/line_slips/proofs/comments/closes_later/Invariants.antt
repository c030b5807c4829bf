use Rattle.std.proofs.Common.{◌≡◌, drop}
use Rattle.line_slips.specs.declared.comments.Reading.TheVariants.{Outside}
use Rattle.line_slips.specs.Comments.{closes_later}
use Rattle.line_slips.proofs.comments.closes_later.Given as goal

abbrev pub invariant-loop-b : goal.invariant-loop-b
invariant-loop-b l = closes_later Outside l.line ≡ closes_later l.at (drop l.b-index l.line)
