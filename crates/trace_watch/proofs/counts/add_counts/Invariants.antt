use Rattle.std.proofs.Common.{◌≡◌, ◌+◌, ◌<◌, ◌≤◌, ℕ, length, get_or}
use Rattle.std.specs.Prelude.{min}
use Rattle.trace_watch.specs.Counted.{most_counted}
use Rattle.trace_watch.proofs.counts.add_counts.Given as goal

abbrev pub invariant-loop-place : goal.invariant-loop-place
invariant-loop-place l =
    (length l.totals.items ≡ length l.fn.totals.items)
    × ((k : ℕ) → k < l.place → get_or l.totals.items k 0 ≡ min most_counted (get_or l.fn.totals.items k 0 + get_or l.counts k 0))
    × ((k : ℕ) → l.place ≤ k → get_or l.totals.items k 0 ≡ get_or l.fn.totals.items k 0)
