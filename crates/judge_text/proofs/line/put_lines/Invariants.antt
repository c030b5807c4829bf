use Rattle.std.proofs.Common.{take}
use Rattle.std.specs.List.{flat_map}
use Rattle.sig_io.specs.Draft.{Puts}
use Rattle.judge_text.specs.Lines.{line_text}
use Rattle.judge_text.proofs.line.put_lines.Given as goal

abbrev pub invariant-loop-breach : goal.invariant-loop-breach
invariant-loop-breach g l =
    Puts g.O.Sink.taken g.O.Sink.faults l.fn.draft l.draft l.fn.sink l.sink
    (flat_map (line_text l.plan.names l.tick l.first l.pictures) (take l.breach-index l.found))
