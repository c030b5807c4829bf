use Rattle.report_seen.proofs.Drawing.{recovered}
use Rattle.report_seen.proofs.gathering.take_record.Goals as goal

pub returns-clause-drawn : goal.returns-clause-drawn
returns-clause-drawn c names records window is second drawn =
    c.in_ok-take_window.ensures.drawn names records window is second
    (recovered names records window.from window.to c.args.diagram.now c.take_covers.new.covers drawn)

pub returns-clause-covers : goal.returns-clause-covers
returns-clause-covers c records second small covers =
    rw c.in_ok-take_window.ensures.covers (c.in_ok-take_covers.ensures records second small covers)
