use Rattle.std.proofs.Common.{◌++◌, []}
use Rattle.sig_io.specs.Draft.{Puts}
use Rattle.report_seen.specs.Letters.{name_text, ticks_to}
use Rattle.report_seen.proofs.letters.put_ticks.Given as goal

abbrev pub invariant-loop-place : goal.invariant-loop-place
invariant-loop-place g l =
    Puts g.O.Sink.taken g.O.Sink.faults l.fn.draft l.draft l.fn.sink l.sink (name_text l.block.margin [] ++ ticks_to l.block.first l.place)
