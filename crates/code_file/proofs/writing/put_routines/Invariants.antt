use Rattle.std.proofs.Common.{ℕ, List, ◌++◌, length, take, codes}
use Rattle.std.specs.List.{flat_map}
use Rattle.std.specs.Fmt.{decimal}
use Rattle.sig_io.specs.Draft.{Puts}
use Rattle.code_file.specs.Text.{line, start_line}
use Rattle.code_file.proofs.writing.put_routines.Given as goal

abbrev pub invariant-loop-start : goal.invariant-loop-start
invariant-loop-start g l =
    Puts g.O.Sink.taken g.O.Sink.faults l.fn.draft l.draft l.fn.sink l.sink
    (line (codes "ROUTINES " ++ decimal (length l.starts)) ++ flat_map start_line (take l.start-index l.starts))
