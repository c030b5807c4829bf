use Rattle.std.proofs.Common.{◌≡◌, ◌<◌, ◌≤◌, ℕ, get_or, length, map}
use Rattle.trace_lines.specs.Rows.{row_in}
use Rattle.trace_lines.specs.Tallied.{any_begun, row_at, with_second}
use Rattle.trace_lines.proofs.tally.add_second.Given as goal

abbrev pub invariant-loop-r : goal.invariant-loop-r
invariant-loop-r l = record {
  long : length l.seconds.items ≡ length l.fn.seconds.items;
  added : (k : ℕ) → k < l.r → k < length l.fn.seconds.items → get_or l.seconds.items k 0
      ≡ with_second (get_or l.fn.seconds.items k 0) (any_begun l.second.begun.items (row_at (map row_in l.rows) k).statements);
  same : (k : ℕ) → l.r ≤ k → get_or l.seconds.items k 0 ≡ get_or l.fn.seconds.items k 0;
}
