use Rattle.std.proofs.Common.{◌≡◌, ◌*◌, ℕ, ◌<◌, ◌≤◌, length, get_or}
use Rattle.junction_calls.proofs.counts.frame_of.Given as goal

abbrev pub invariant-loop-part : goal.invariant-loop-part
invariant-loop-part l = record {
  size : length l.frame ≡ 64;
  counts : (p : ℕ) → p < 16 * l.part → get_or l.frame p (0, 0) ≡ (get_or l.counts.fronts p 0, get_or l.counts.rears p 0);
  rest : (p : ℕ) → 16 * l.part ≤ p → get_or l.frame p (0, 0) ≡ (0, 0);
}
