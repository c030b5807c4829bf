use Rattle.std.proofs.Common.{◌≡◌, map, take}
use Rattle.trace_lines.specs.Tallied.{begun_in}
use Rattle.trace_lines.proofs.tally.begun_at.Given as goal

abbrev pub invariant-loop-place : goal.invariant-loop-place
invariant-loop-place l = l.begun.items ≡ map (begun_in l.counts) (take l.place-index l.places)
