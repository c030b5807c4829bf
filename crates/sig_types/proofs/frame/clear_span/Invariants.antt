use Rattle.std.proofs.Common.{◌≡◌, ℕ, ◌<◌, ◌≤◌, length, get_or}
use Rattle.sig_types.proofs.frame.clear_span.Given as goal

abbrev pub invariant-loop-place : goal.invariant-loop-place
invariant-loop-place l = record {
  size : length l.counts ≡ length l.initial.counts;
  before : (p : ℕ) → p < l.place → get_or l.counts p (0, 0) ≡ (0, 0);
  after : (p : ℕ) → l.high ≤ p → get_or l.counts p (0, 0) ≡ (0, 0);
}
