use Rattle.std.proofs.Common.{◌≡◌, ℕ, ◌+◌, ◌<◌, ◌≤◌, get_or, length}
use Rattle.log_sums.specs.declared.detector.DetectorSums.{DetectorSums}
use Rattle.log_sums.specs.Detectors.{AreDetectorSums}
use Rattle.log_sums.proofs.restart.restart_detectors.Given as goal

abbrev pub invariant-loop-place : goal.invariant-loop-place
invariant-loop-place l = record {
  size : length l.detectors ≡ 64;
  shown : (f r : ℕ → ℕ) (from n p : ℕ) (d : DetectorSums) → p < l.place → AreDetectorSums f r from n (get_or l.fn.detectors p d) →
      AreDetectorSums f r (n + 1) n (get_or l.detectors p d);
  rest : (p : ℕ) (d : DetectorSums) → l.place ≤ p → get_or l.detectors p d ≡ get_or l.fn.detectors p d;
}
