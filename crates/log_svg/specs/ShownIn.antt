-- What a diagram shows.
use Rattle.log_svg.specs.declared.diagram.Diagram.{Diagram}
use Rattle.log_svg.specs.Covers.{spans_in}
use Rattle.log_svg.specs.Diagram.{Shown}

-- the parts of a diagram
abbrev pub shown_in : Diagram → Shown
shown_in d = record {
  names = d.names.items;
  from = d.from;
  to = d.to;
  rows = d.chart.rows;
  stays = d.stays.items;
  fronts = d.fronts.items;
  covers = spans_in d.covers.items;
  refusals = d.refusals.items;
  faults = d.faults.items;
}
