use Rattle.std.proofs.Common.{◌≡◌, drop}
use Rattle.trace_lines.specs.Tallied.{any_begun}
use Rattle.trace_lines.proofs.tally.any_begun.Given as goal

abbrev pub invariant-loop-place : goal.invariant-loop-place
invariant-loop-place l = any_begun l.counts.begun.items (drop l.place-index l.places) ≡ any_begun l.counts.begun.items l.places
