use Rattle.std.proofs.Common.{◌≡◌, take}
use Rattle.sig_io.specs.Draft.{Puts}
use Rattle.log_svg.specs.Marks.{marking_of}
use Rattle.log_svg.proofs.marks.put_marks.Given as goal

abbrev pub invariant-loop-mark : goal.invariant-loop-mark
invariant-loop-mark g l = record {
  last : l.last ≡ (marking_of l.names l.layout l.group l.y (take l.mark-index l.marks)).last;
  puts : Puts g.O.Sink.taken g.O.Sink.faults l.fn.draft l.draft l.fn.sink l.sink (marking_of l.names l.layout l.group l.y (take l.mark-index l.marks)).text;
}
