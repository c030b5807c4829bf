use Rattle.std.proofs.Common.{◌≡◌, ℕ, ◌+◌, ◌*◌, ◌<◌, ◌≤◌, length}
use Rattle.sig_types.specs.Turns.{shown}
use Rattle.log_protocol.specs.Steps.{together_at, with_both}
use Rattle.log_protocol.proofs.together.add_together.Given as goal

abbrev pub invariant-loop-g : goal.invariant-loop-g
invariant-loop-g l = record {
  size : length l.pairs.items ≡ length l.fn.pairs.items;
  done : (j i : ℕ) → j < l.g → i < length l.picture → together_at l.pairs.items (64 * j + i) ≡
      with_both (together_at l.fn.pairs.items (64 * j + i)) (shown l.picture j) (shown l.picture i) l.second;
  left : (q : ℕ) → 64 * l.g ≤ q → together_at l.pairs.items q ≡ together_at l.fn.pairs.items q;
}
