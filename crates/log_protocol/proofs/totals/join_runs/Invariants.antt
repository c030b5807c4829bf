use Rattle.std.proofs.Common.{◌≡◌, ℕ, ◌<◌, ◌≤◌, length}
use Rattle.log_judge.specs.Came.{runs_at}
use Rattle.log_protocol.specs.Joined.{joined}
use Rattle.log_protocol.proofs.totals.join_runs.Given as goal

abbrev pub invariant-loop-q : goal.invariant-loop-q
invariant-loop-q l = record {
  size : length l.runs ≡ length l.fn.runs;
  done : (j : ℕ) → j < l.q → runs_at l.runs j ≡ joined (runs_at l.fn.runs j) l.first (runs_at l.later j);
  left : (j : ℕ) → l.q ≤ j → runs_at l.runs j ≡ runs_at l.fn.runs j;
}
