use Rattle.std.proofs.Common.{refl}
use Rattle.report_seen.proofs.Covering.{cover_none}
use Rattle.report_seen.proofs.Drawing.{draw_none}
use Rattle.report_seen.proofs.gathering.begin.Goals as goal

pub returns-clause-drawn : goal.returns-clause-drawn
returns-clause-drawn c =
    draw_none c.args.names.now c.args.window.from c.args.window.to _ c.requires.window.least c.in_ok-copies.ensures refl refl
    c.in_ok-chart.ensures.from.0 c.in_ok-chart.ensures.from.1 (λ h. c.in_ok-chart.ensures.charted h)
    c.new-2.ensures.items c.new-3.ensures.items c.new-4.ensures.items c.new-5.ensures.items

pub returns-clause-covers : goal.returns-clause-covers
returns-clause-covers c =
    cover_none c.args.window.from c.args.window.to _ c.requires.window.least c.in_ok-covers.ensures.size c.in_ok-covers.ensures.covers
