use Rattle.std.proofs.Common.{◌≤◌}
use Rattle.junction_live.proofs.feeders.busy_detectors.Given as goal

abbrev pub invariant-loop-place : goal.invariant-loop-place
invariant-loop-place l = l.busy ≤ 64
