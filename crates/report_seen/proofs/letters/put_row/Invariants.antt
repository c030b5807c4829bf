use Rattle.std.proofs.Common.{◌++◌, take}
use Rattle.sig_io.specs.Draft.{Puts}
use Rattle.std.specs.List.{flat_map}
use Rattle.report_seen.specs.Letters.{name_text, span_text}
use Rattle.report_seen.proofs.letters.put_row.Given as goal

abbrev pub invariant-loop-span : goal.invariant-loop-span
invariant-loop-span g l =
    Puts g.O.Sink.taken g.O.Sink.faults l.fn.draft l.draft l.fn.sink l.sink (name_text l.block.margin l.name ++ flat_map (span_text l.block) (take l.span-index l.spans))
