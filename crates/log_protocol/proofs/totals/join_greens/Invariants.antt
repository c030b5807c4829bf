use Rattle.std.proofs.Common.{◌≡◌, ℕ, ◌<◌, ◌≤◌, length}
use Rattle.log_protocol.specs.Steps.{together_at}
use Rattle.log_protocol.specs.Joined.{joined_greens}
use Rattle.log_protocol.proofs.totals.join_greens.Given as goal

abbrev pub invariant-loop-q : goal.invariant-loop-q
invariant-loop-q l = record {
  size : length l.greens.items ≡ length l.fn.greens.items;
  done : (j : ℕ) → j < l.q → together_at l.greens.items j ≡ joined_greens (together_at l.fn.greens.items j) l.first (together_at l.later.items j);
  left : (j : ℕ) → l.q ≤ j → together_at l.greens.items j ≡ together_at l.fn.greens.items j;
}
