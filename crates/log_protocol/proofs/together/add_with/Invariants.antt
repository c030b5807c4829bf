use Rattle.std.proofs.Common.{◌≡◌, ℕ, ◌+◌, ◌*◌, ◌<◌, ◌≤◌, length}
use Rattle.sig_types.specs.Turns.{shown}
use Rattle.log_protocol.specs.Steps.{together_at, with_both}
use Rattle.log_protocol.proofs.together.add_with.Given as goal

abbrev pub invariant-loop-i : goal.invariant-loop-i
invariant-loop-i l = record {
  size : length l.pairs.items ≡ length l.fn.pairs.items;
  done : (j : ℕ) → j < l.i → together_at l.pairs.items (64 * l.g + j) ≡ with_both (together_at l.fn.pairs.items (64 * l.g + j)) l.aspect (shown l.picture j) l.second;
  below : (q : ℕ) → q < 64 * l.g → together_at l.pairs.items q ≡ together_at l.fn.pairs.items q;
  above : (q : ℕ) → 64 * l.g + l.i ≤ q → together_at l.pairs.items q ≡ together_at l.fn.pairs.items q;
}
