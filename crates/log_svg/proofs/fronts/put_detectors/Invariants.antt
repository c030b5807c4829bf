use Rattle.std.proofs.Common.{◌≡◌, ◌≤◌}
use Rattle.sig_io.specs.Draft.{Puts}
use Rattle.log_svg.specs.Covers.{spans_in}
use Rattle.log_svg.specs.Marks.{detectors_text, shown_to}
use Rattle.log_svg.proofs.fronts.put_detectors.Given as goal

abbrev pub invariant-loop-place : goal.invariant-loop-place
invariant-loop-place g l = record {
  puts : Puts g.O.Sink.taken g.O.Sink.faults l.fn.draft l.draft l.fn.sink l.sink (detectors_text l.layout l.row l.marks (spans_in l.covers) l.place);
  shown : l.shown ≡ shown_to l.marks (spans_in l.covers) l.place;
  few : l.shown ≤ l.place;
}
