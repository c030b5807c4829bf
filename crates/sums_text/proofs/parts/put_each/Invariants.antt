use Rattle.std.proofs.Common.{take}
use Rattle.sig_io.specs.Draft.{Puts}
use Rattle.std.specs.List.{flat_map}
use Rattle.sums_text.specs.Parts.{part_text}
use Rattle.sums_text.proofs.parts.put_each.Given as goal

abbrev pub invariant-loop-sums : goal.invariant-loop-sums
invariant-loop-sums g l =
    Puts g.O.Sink.taken g.O.Sink.faults l.fn.draft l.draft l.fn.sink l.sink (flat_map (part_text l.names l.named) (take l.sums-index l.parts))
