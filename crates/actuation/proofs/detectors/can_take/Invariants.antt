use Rattle.std.proofs.Common.{ℕ, ◌<◌}
use Rattle.actuation.specs.Detector.{CanTakeAt}
use Rattle.actuation.proofs.detectors.can_take.Given as goal

abbrev pub invariant-loop-place : goal.invariant-loop-place
invariant-loop-place l = (p : ℕ) → p < l.place → CanTakeAt l.detectors l.frame p
