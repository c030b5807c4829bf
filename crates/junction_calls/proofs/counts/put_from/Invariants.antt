use Rattle.std.proofs.Common.{◌≡◌, ◌<◌, ◌≤◌, ℕ, length, get_or}
use Rattle.junction_calls.proofs.counts.put_from.Given as goal

abbrev pub invariant-loop-place : goal.invariant-loop-place
invariant-loop-place l = record {
  size : length l.frame ≡ 64;
  put : (p : ℕ) → l.at ≤ p → p < l.place → get_or l.frame p (0, 0) ≡ (get_or l.counts.fronts p 0, get_or l.counts.rears p 0);
  before : (p : ℕ) → p < l.at → get_or l.frame p (0, 0) ≡ get_or l.initial.frame p (0, 0);
  behind : (p : ℕ) → l.place ≤ p → get_or l.frame p (0, 0) ≡ get_or l.initial.frame p (0, 0);
}
