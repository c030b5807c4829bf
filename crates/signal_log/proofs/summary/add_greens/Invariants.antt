use Rattle.std.proofs.Common.{◌≡◌, ℕ, ◌+◌, ◌<◌, ◌≤◌, cond, length, slice_index}
use Rattle.sig_types.specs.Turns.{shown}
use Rattle.signal_log.specs.Summary.{turned}
use Rattle.signal_log.proofs.summary.add_greens.Given as goal

abbrev pub invariant-loop-g : goal.invariant-loop-g
invariant-loop-g l = record {
  before : (k : ℕ) → k < l.g → slice_index l.greens k ≡ slice_index l.fn.greens k + cond (turned (shown l.last k) (shown l.picture k)) 1 0;
  after : (k : ℕ) → l.g ≤ k → slice_index l.greens k ≡ slice_index l.fn.greens k;
  size : length l.greens ≡ 64;
}
