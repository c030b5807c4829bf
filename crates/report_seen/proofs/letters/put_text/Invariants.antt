use Rattle.std.proofs.Common.{◌++◌}
use Rattle.sig_io.specs.Draft.{Puts}
use Rattle.report_seen.specs.Letters.{blocks_to, key_text}
use Rattle.log_svg.specs.ShownIn.{shown_in}
use Rattle.report_seen.proofs.letters.put_text.Given as goal

abbrev pub invariant-loop-number : goal.invariant-loop-number
invariant-loop-number g l =
    Puts g.O.Sink.taken g.O.Sink.faults l.fn.draft l.draft l.fn.sink l.sink (key_text ++ blocks_to (shown_in l.diagram) l.number)
