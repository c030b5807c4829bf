-- When a detector is covered. It has fronts and rears in each second from 1 on, and is covered at the end of a second where its
-- fronts so far are more than its rears so far.
use Rattle.std.specs.Prelude.{◌≡◌, ℕ, ◌+◌, ◌*◌, ◌≤◌, max}
use Rattle.log_chart.specs.declared.cover.Cover.{Cover}
use Rattle.log_chart.specs.Spans.{AreSpans}
use Rattle.log_sums.specs.Detectors.{occupied}
use Rattle.log_sums.specs.Series.{sum_to}

-- its fronts and rears so far, counted from second 1 to second n
pub record AreCounts (fronts rears : ℕ → ℕ) (n : ℕ) (c : Cover) : Type 0 where
  pub fronts_are : c.fronts ≡ sum_to fronts n
  pub rears_are : c.rears ≡ sum_to rears n
  pub fronts_fit : c.fronts ≤ n * 4294967296
  pub rears_fit : c.rears ≤ n * 4294967296

-- What is known of a detector behind second n: its counts, and of the seconds from `from` on the spans in which it is covered, and
-- those in which it isn't.
pub record IsCover (fronts rears : ℕ → ℕ) (from n : ℕ) (c : Cover) : Type 0 where
  pub counts_are : AreCounts fronts rears n c
  pub spans_are : AreSpans (occupied fronts rears) from (max from (n + 1)) c.spans.items
