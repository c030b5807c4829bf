use Rattle.sig_io.specs.Draft.{Puts}
use Rattle.log_svg.specs.Axis.{axis_text}
use Rattle.log_svg.proofs.axis.put_axis.Given as goal

abbrev pub invariant-loop-place : goal.invariant-loop-place
invariant-loop-place g l =
    Puts g.O.Sink.taken g.O.Sink.faults l.fn.draft l.draft l.fn.sink l.sink (axis_text l.begin l.layout l.end l.place)
