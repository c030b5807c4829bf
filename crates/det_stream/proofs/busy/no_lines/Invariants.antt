use Rattle.std.proofs.Common.{◌≡◌, ℕ, ◌<◌, [], length, map, slice_index_or}
use Rattle.det_stream.proofs.busy.no_lines.Given as goal

abbrev pub invariant-loop-place : goal.invariant-loop-place
invariant-loop-place l = record {
  size : length l.detectors.items ≡ l._place;
  none : (d : ℕ) → d < l._place → slice_index_or (map (λ v. v.items) l.detectors.items) d [] ≡ [];
}
