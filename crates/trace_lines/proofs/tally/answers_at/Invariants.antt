use Rattle.std.proofs.Common.{◌≡◌, map, take}
use Rattle.trace_lines.specs.Tallied.{answers_in}
use Rattle.trace_lines.proofs.tally.answers_at.Given as goal

abbrev pub invariant-loop-place : goal.invariant-loop-place
invariant-loop-place l = l.answers.items ≡ map (answers_in l.counts) (take l.place-index l.places)
