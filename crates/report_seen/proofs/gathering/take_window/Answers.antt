use Rattle.std.proofs.Common.{arith}
use Rattle.report_seen.proofs.Drawing.{draw_before, draw_behind, draw_more}
use Rattle.report_seen.proofs.gathering.take_window.Goals.{else-diagram-second-via-then-diagram-second+else-second-diagram, else-diagram-second-via-else-diagram-second}
use Rattle.report_seen.proofs.gathering.take_window.Goals as goal

pub returns-in-Ok-clause-drawn : goal.returns-in-Ok-clause-drawn
returns-in-Ok-clause-drawn c names records window is second drawn =
    draw_more names records window.from window.to c.args.diagram.now c.add_second.new.diagram c.args.rec.now is.least second
    (omega (arith, c.if-diagram-second.true, drawn.from_is))
    (omega (arith, c.if-second-diagram.true, drawn.to_is)) record {
      names = c.in-Ok.ensures.names;
      from = c.in-Ok.ensures.from;
      to = c.in-Ok.ensures.to;
      past = c.in-Ok.ensures.past;
      chart = c.in-Ok.ensures.chart;
      chart_from = c.in-Ok.ensures.chart_from;
      stays = c.in-Ok.ensures.stays;
      fronts = c.in-Ok.ensures.fronts;
      refusals = c.in-Ok.ensures.refusals;
      faults = c.in-Ok.ensures.faults;
    } drawn

pub returns-clause-drawn : goal.returns-clause-drawn
returns-clause-drawn c names records window is second drawn = elim c.else-diagram-second.branch [
  | else-diagram-second-via-then-diagram-second+else-second-diagram w ↦
      draw_behind names records window.from window.to c.args.diagram.now c.args.rec.now is.least is.order
      (omega (arith, w.if-second-diagram.false, drawn.to_is, second)) drawn
  | else-diagram-second-via-else-diagram-second w ↦
      draw_before names records window.from window.to c.args.diagram.now c.args.rec.now (omega (arith, w.if-diagram-second.false, drawn.from_is, second)) drawn
]
