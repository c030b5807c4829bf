use Rattle.sig_io.specs.Draft.{Puts}
use Rattle.report_seen.specs.Letters.{groups_rows}
use Rattle.log_svg.specs.ShownIn.{shown_in}
use Rattle.report_seen.proofs.letters.put_groups.Given as goal

abbrev pub invariant-loop-place : goal.invariant-loop-place
invariant-loop-place g l =
    Puts g.O.Sink.taken g.O.Sink.faults l.fn.draft l.draft l.fn.sink l.sink (groups_rows l.block (shown_in l.diagram) l.place)
