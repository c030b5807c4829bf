use Rattle.std.proofs.Common.{take}
use Rattle.sig_io.specs.Draft.{Puts}
use Rattle.log_compare.specs.Text.{aspects_text}
use Rattle.log_compare.proofs.fields.put_aspects.Given as goal

abbrev pub invariant-loop-place : goal.invariant-loop-place
invariant-loop-place g l =
    Puts g.O.Sink.taken g.O.Sink.faults l.fn.draft l.draft l.fn.sink l.sink (aspects_text l.second (take l.place l.names) l.one l.other)
