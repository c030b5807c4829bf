use Rattle.std.proofs.Common.{◌∙◌, ◌<◌, ℕ, ap, arith, length, sym}
use Rattle.std.proofs.lemmas.List.{length-set}
use Rattle.sig_types.specs.Counts.{fronts, rears}
use Rattle.log_sums.specs.declared.detector.DetectorSums.{DetectorSums}
use Rattle.log_sums.specs.Detectors.{AreDetectorSums}
use Rattle.log_sums.proofs.Added.{count_at, read_at, set_rest, set_shown}
use Rattle.log_sums.proofs.adding.show_detectors.Goals as goal

pub loop-place-preserved : goal.loop-place-preserved
loop-place-preserved c =
    let before = c.loop-place.invariant in
    let xs = c.loop-place.detectors in
    let i = c.from-at.result in
    let at = c.from-at.ensures in
    let old = c.args.detectors.now in
    let inside : i < length xs = omega (arith, at, before.size, c.loop-place-test.true) in
    let item = c.get-fronts.ensures.item in
    record {
      size = length-set xs i c.show.result ∙ before.size;
      shown = λ f r n p d next small less here there is.
          set_shown DetectorSums xs i p c.show.result d (λ x. AreDetectorSums f r c.args.from c.args.second x) inside
          (λ same. c.show.ensures f r n next small
          (here ∙ (count_at fronts p c.loop-place.place c.args.frame.now (same ∙ at) ∙ sym (ap (λ (x : ℕ × ℕ). x.0) item)))
          (there ∙ (count_at rears p c.loop-place.place c.args.frame.now (same ∙ at) ∙ sym (ap (λ (x : ℕ × ℕ). x.1) item)))
          (read_at DetectorSums (λ x. AreDetectorSums f r c.args.from n x) xs old i p d _ inside same (before.rest i d (omega (arith, at))) is))
          (λ under. before.shown f r n p d next small (omega (arith, at, under)) here there is) (omega (arith, at, less));
      rest = λ p d behind. set_rest DetectorSums xs i p c.show.result d (omega (arith, at, behind)) ∙ before.rest p d (omega (arith, behind));
    }

pub returns-clause-size : goal.returns-clause-size
returns-clause-size c = c.loop-place.invariant.size

pub returns-clause-each : goal.returns-clause-each
returns-clause-each c = λ f r n p d next small inside here there is.
    c.loop-place.invariant.shown f r n p d next small (omega (arith, inside, c.loop-place-test.false)) here there is
