use Rattle.std.proofs.Common.{ℕ, List, ◌++◌, map, take}
use Rattle.std.specs.List.{flat_map}
use Rattle.sig_io.specs.Draft.{Puts}
use Rattle.code_file.specs.Text.{array_line}
use Rattle.code_file.proofs.writing.put_arrays.Given as goal

abbrev pub invariant-loop-values : goal.invariant-loop-values
invariant-loop-values g l =
    Puts g.O.Sink.taken g.O.Sink.faults l.fn.draft l.draft l.fn.sink l.sink (flat_map array_line (map (λ a. a.items) (take l.values-index l.arrays)))
