use Rattle.std.proofs.Common.{◌∙◌, ◌<◌, ◌+◌, arith, length}
use Rattle.std.proofs.lemmas.List.{length-set}
use Rattle.log_sums.specs.declared.detector.DetectorSums.{DetectorSums}
use Rattle.log_sums.specs.Detectors.{AreDetectorSums}
use Rattle.log_sums.proofs.Added.{read_at, set_rest, set_shown}
use Rattle.log_sums.proofs.restart.restart_detectors.Goals as goal

pub loop-place-preserved : goal.loop-place-preserved
loop-place-preserved c =
    let before = c.loop-place.invariant in
    let xs = c.loop-place.detectors in
    let i = c.loop-place.place in
    let old = c.args.detectors.now in
    let y = c.restart_detector.result in
    let inside : i < length xs = omega (arith, before.size, c.loop-place-test.true) in
    record {
      size = length-set xs i y ∙ before.size;
      shown = λ f r from n p d less is.
          set_shown DetectorSums xs i p y d (λ x. AreDetectorSums f r (n + 1) n x) inside
          (λ same. c.restart_detector.ensures f r from n
          (read_at DetectorSums (λ x. AreDetectorSums f r from n x) xs old i p d _ inside same (before.rest i d (omega arith)) is))
          (λ under. before.shown f r from n p d (omega (arith, under)) is) (omega (arith, less));
      rest = λ p d behind. set_rest DetectorSums xs i p y d (omega (arith, behind)) ∙ before.rest p d (omega (arith, behind));
    }

pub returns-clause-size : goal.returns-clause-size
returns-clause-size c = c.loop-place.invariant.size

pub returns-clause-each : goal.returns-clause-each
returns-clause-each c = λ f r from n p d inside is.
    c.loop-place.invariant.shown f r from n p d (omega (arith, inside, c.loop-place-test.false)) is
