-- A second without a front or a rear changes nothing.
use Rattle.std.proofs.Common.{◌≡◌, ℕ, ◌≤◌, List, ap, arith}
use Rattle.sig_types.specs.Counts.{Counts}
use Rattle.actuation.specs.declared.detector.Detector.{Detector}
use Rattle.actuation.specs.Detector.{at, count_at, advanced, CanTakeAt}

pub advanced_silent : (x : Detector) (c : ℕ × ℕ) (second : ℕ) → c ≡ (0, 0) → advanced x c second ≡ x
advanced_silent x c second e = ap (λ (d : ℕ × ℕ). advanced x d second) e

pub can_take_silent : (detectors : List Detector) (frame : Counts) (p : ℕ) → count_at frame p ≡ (0, 0) →
    (at detectors p).rears ≤ (at detectors p).fronts → (at detectors p).fronts ≤ 2147483647 → CanTakeAt detectors frame p
can_take_silent detectors frame p e within at_most =
    let f : (count_at frame p).0 ≡ 0 = ap (λ (d : ℕ × ℕ). d.0) e in
    let r : (count_at frame p).1 ≡ 0 = ap (λ (d : ℕ × ℕ). d.1) e in
    record { within = omega (arith, f, r, within); at_most = omega (arith, f, at_most) }
