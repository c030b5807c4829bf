use Rattle.std.proofs.Common.{◌≡◌, true, false, Some, None, map}
use Rattle.report_seen.specs.Serves.{detector_items}
use Rattle.report_seen.proofs.serve.detectors_in.Given as goal

abbrev pub invariant-loop-word : goal.invariant-loop-word
invariant-loop-word l = record {
  right : l.right ≡ true → detector_items (map (λ w. w.now) l.yielded) ≡ Some l.detectors;
  wrong : l.right ≡ false → detector_items (map (λ w. w.now) l.yielded) ≡ None;
}
