use Rattle.std.proofs.Common.{◌≡◌, ℕ, ◌<◌, ◌≤◌, [], ◌++◌, length, map, slice_index_or}
use Rattle.det_stream.specs.Busy.{line_kept}
use Rattle.det_stream.proofs.busy.keep_line.Given as goal

abbrev pub invariant-loop-place : goal.invariant-loop-place
invariant-loop-place l = record {
  size : length l.detectors.items ≡ 64;
  done_so_far : (d : ℕ) → d < l.place → d < 64 →
      slice_index_or (map (λ v. v.items) l.detectors.items) d [] ≡ slice_index_or (map (λ v. v.items) l.fn.detectors.items) d [] ++ line_kept l.line
      (slice_index_or l.frame d (0, 0));
  left : (d : ℕ) → l.place ≤ d → slice_index_or (map (λ v. v.items) l.detectors.items) d [] ≡ slice_index_or (map (λ v. v.items) l.fn.detectors.items) d [];
}
