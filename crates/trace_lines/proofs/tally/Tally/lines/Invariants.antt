use Rattle.std.proofs.Common.{◌≡◌, ◌<◌, ℕ, get_or, length, map}
use Rattle.trace_lines.specs.Lines.{LineOf, line_in}
use Rattle.trace_lines.specs.Rows.{row_in}
use Rattle.trace_lines.specs.Tallied.{line_by, row_at}
use Rattle.trace_lines.proofs.tally.Tally.lines.Given as goal

abbrev pub invariant-loop-r : goal.invariant-loop-r
invariant-loop-r l = record {
  long : length l.lines.items ≡ l.r;
  each : (k : ℕ) (d : LineOf) → k < l.r →
      get_or (map line_in l.lines.items) k d ≡ line_by l.self.all (get_or l.self.seconds.items k 0) (row_at (map row_in l.self.rows.items) k);
}
