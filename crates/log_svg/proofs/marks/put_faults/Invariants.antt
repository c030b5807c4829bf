use Rattle.std.proofs.Common.{take}
use Rattle.sig_io.specs.Draft.{Puts}
use Rattle.log_svg.specs.Marks.{faults_text}
use Rattle.log_svg.proofs.marks.put_faults.Given as goal

abbrev pub invariant-loop-mark : goal.invariant-loop-mark
invariant-loop-mark g l =
    Puts g.O.Sink.taken g.O.Sink.faults l.fn.draft l.draft l.fn.sink l.sink (faults_text l.layout l.y (take l.mark-index l.marks))
