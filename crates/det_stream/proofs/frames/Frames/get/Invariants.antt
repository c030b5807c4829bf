use Rattle.std.proofs.Common.{◌≡◌, ℕ, ◌<◌, [], length, map, slice_index_or}
use Rattle.det_stream.specs.Busy.{counts_in_line}
use Rattle.det_stream.proofs.frames.Frames.get.Given as goal

abbrev pub invariant-loop-detector : goal.invariant-loop-detector
invariant-loop-detector l = record {
  size : length l.frame ≡ 64;
  done_so_far : (d : ℕ) → d < l.detector →
      slice_index_or l.frame d (0, 0) ≡ counts_in_line l.place (slice_index_or (map (λ v. v.items) l.self-inside.detectors.items) d []);
}
