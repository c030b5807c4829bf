use Rattle.std.proofs.Common.{ℕ, List, ◌++◌, length, take, codes}
use Rattle.std.specs.List.{flat_map}
use Rattle.std.specs.Fmt.{decimal}
use Rattle.sig_io.specs.Draft.{Puts}
use Rattle.code_file.specs.Text.{line, instr_line}
use Rattle.code_file.proofs.writing.put_body.Given as goal

abbrev pub invariant-loop-instr : goal.invariant-loop-instr
invariant-loop-instr g l =
    Puts g.O.Sink.taken g.O.Sink.faults l.fn.draft l.draft l.fn.sink l.sink
    (line (codes "CODE " ++ decimal (length l.instrs)) ++ flat_map instr_line (take l.instr-index l.instrs))
