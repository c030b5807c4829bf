use Rattle.std.proofs.Common.{◌≡◌, ℕ, ◌<◌, ◌≤◌, length}
use Rattle.log_judge.specs.Came.{runs_at}
use Rattle.log_protocol.specs.Joined.{joined}
use Rattle.log_protocol.proofs.totals.join_changes.Given as goal

abbrev pub invariant-loop-q : goal.invariant-loop-q
invariant-loop-q l = record {
  size : length l.changes.items ≡ length l.fn.changes.items;
  done : (j : ℕ) → j < l.q → runs_at l.changes.items j ≡ joined (runs_at l.fn.changes.items j) l.first (runs_at l.protocol.pairs.items j);
  left : (j : ℕ) → l.q ≤ j → runs_at l.changes.items j ≡ runs_at l.fn.changes.items j;
}
