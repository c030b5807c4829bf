use Rattle.std.proofs.Common.{◌≡◌, ℕ, ◌≤◌, ◌<◌, get_or, length}
use Rattle.log_chart.specs.declared.cover.Cover.{Cover}
use Rattle.log_chart.specs.Covers.{IsCover}
use Rattle.log_chart.proofs.covers.no_covers.Given as goal

abbrev pub invariant-loop-place : goal.invariant-loop-place
invariant-loop-place l = record {
  size : length l.covers.items ≡ l._place;
  covers : (f r : ℕ → ℕ) (from p : ℕ) (d : Cover) → 1 ≤ from → p < l._place → IsCover f r from 0 (get_or l.covers.items p d);
}
