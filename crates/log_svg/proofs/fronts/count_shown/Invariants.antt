use Rattle.std.proofs.Common.{◌≡◌, ◌≤◌}
use Rattle.log_svg.specs.Covers.{spans_in}
use Rattle.log_svg.specs.Marks.{shown_to}
use Rattle.log_svg.proofs.fronts.count_shown.Given as goal

abbrev pub invariant-loop-place : goal.invariant-loop-place
invariant-loop-place l = record {
  count : l.count ≡ shown_to l.marks (spans_in l.covers) l.place;
  few : l.count ≤ l.place;
}
