use Rattle.sig_io.specs.Draft.{Puts}
use Rattle.log_svg.specs.Diagram.{strips_text}
use Rattle.log_svg.specs.LookIn.{look_in}
use Rattle.log_svg.specs.ShownIn.{shown_in}
use Rattle.log_svg.proofs.diagram.put_strips.Given as goal

abbrev pub invariant-loop-number : goal.invariant-loop-number
invariant-loop-number g l =
    Puts g.O.Sink.taken g.O.Sink.faults l.fn.draft l.draft l.fn.sink l.sink (strips_text l.sheet (shown_in l.diagram) (look_in l.look) l.number)
