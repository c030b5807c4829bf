use Rattle.std.proofs.Common.{◌≡◌, ℕ, ◌+◌, ◌<◌, ◌≤◌, get_or, length}
use Rattle.sig_types.specs.Counts.{count_in, fronts, rears}
use Rattle.log_sums.specs.declared.detector.DetectorSums.{DetectorSums}
use Rattle.log_sums.specs.Detectors.{AreDetectorSums}
use Rattle.log_sums.proofs.adding.show_detectors.Given as goal

abbrev pub invariant-loop-place : goal.invariant-loop-place
invariant-loop-place l = record {
  size : length l.detectors ≡ 64;
  shown : (f r : ℕ → ℕ) (n p : ℕ) (d : DetectorSums) → l.fn.second ≡ n + 1 → l.fn.second < 2147483648 → p < l.place →
      f l.fn.second ≡ count_in fronts (p + 1) l.frame → r l.fn.second ≡ count_in rears (p + 1) l.frame →
      AreDetectorSums f r l.fn.from n (get_or l.fn.detectors p d) → AreDetectorSums f r l.fn.from l.fn.second (get_or l.detectors p d);
  rest : (p : ℕ) (d : DetectorSums) → l.place ≤ p → get_or l.detectors p d ≡ get_or l.fn.detectors p d;
}
