use Rattle.std.proofs.Common.{◌≡◌, ◌<◌, ℕ, get_or, length}
use Rattle.log_compare.proofs.alike.same_frame.Given as goal

abbrev pub invariant-loop-place : goal.invariant-loop-place
invariant-loop-place l = record {
  same : (k : ℕ) → k < l.place → get_or l.one k (0, 0) ≡ get_or l.other k (0, 0);
  sizes : 0 < l.place → (length l.one ≡ 64) × (length l.other ≡ 64);
}
