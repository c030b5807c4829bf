use Rattle.sig_io.specs.Draft.{Puts}
use Rattle.log_svg.specs.Diagram.{parts_text}
use Rattle.log_svg.specs.LookIn.{look_in}
use Rattle.log_svg.specs.ShownIn.{shown_in}
use Rattle.log_svg.proofs.diagram.put_parts.Given as goal

abbrev pub invariant-loop-part : goal.invariant-loop-part
invariant-loop-part g l =
    Puts g.O.Sink.taken g.O.Sink.faults l.fn.draft l.draft l.fn.sink l.sink (parts_text l.sheet (shown_in l.diagram) (look_in l.look) l.number l.part)
