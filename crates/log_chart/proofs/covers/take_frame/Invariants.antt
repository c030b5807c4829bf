use Rattle.std.proofs.Common.{◌≡◌, ℕ, ◌+◌, ◌<◌, ◌≤◌, get_or, length}
use Rattle.sig_types.specs.Counts.{count_in, fronts, rears}
use Rattle.log_chart.specs.declared.cover.Cover.{Cover}
use Rattle.log_chart.specs.Covers.{IsCover}
use Rattle.log_chart.proofs.covers.take_frame.Given as goal

abbrev pub invariant-loop-place : goal.invariant-loop-place
invariant-loop-place l = record {
  size : length l.covers.items ≡ 64;
  covers : (f r : ℕ → ℕ) (n p : ℕ) (d : Cover) → l.fn.second ≡ n + 1 → l.fn.second < 2147483648 → p < l.place →
      f l.fn.second ≡ count_in fronts (p + 1) l.frame → r l.fn.second ≡ count_in rears (p + 1) l.frame →
      IsCover f r l.fn.from n (get_or l.fn.covers.items p d) → IsCover f r l.fn.from l.fn.second (get_or l.covers.items p d);
  rest : (p : ℕ) (d : Cover) → l.place ≤ p → get_or l.covers.items p d ≡ get_or l.fn.covers.items p d;
}
