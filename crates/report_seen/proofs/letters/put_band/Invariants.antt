use Rattle.std.proofs.Common.{◌++◌, take}
use Rattle.std.specs.Prelude.{codes}
use Rattle.std.specs.List.{flat_map}
use Rattle.sig_io.specs.Draft.{Puts}
use Rattle.report_seen.specs.Letters.{name_text, stay_text}
use Rattle.report_seen.proofs.letters.put_band.Given as goal

abbrev pub invariant-loop-stay : goal.invariant-loop-stay
invariant-loop-stay g l =
    Puts g.O.Sink.taken g.O.Sink.faults l.fn.draft l.draft l.fn.sink l.sink
    (name_text l.block.margin (codes "stage") ++ flat_map (stay_text l.block) (take l.stay-index l.stays))
