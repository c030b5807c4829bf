use Rattle.std.proofs.Common.{◌<◌, ◌≤◌, ℕ, get_or}
use Rattle.junction_calls.proofs.counts.most_from.Given as goal

abbrev pub invariant-loop-place : goal.invariant-loop-place
invariant-loop-place l = (p : ℕ) → l.at ≤ p → p < l.place → get_or l.counts p 0 ≤ l.most
