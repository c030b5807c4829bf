use Rattle.std.proofs.Common.{ℕ, ◌<◌, ◌≤◌}
use Rattle.det_stream.specs.Totals.{counts_at}
use Rattle.det_stream.proofs.totals.judge_totals.Given as goal

abbrev pub invariant-loop-place : goal.invariant-loop-place
invariant-loop-place l = (k : ℕ) → k < l.place → (counts_at l.totals k).1 ≤ (counts_at l.totals k).0
