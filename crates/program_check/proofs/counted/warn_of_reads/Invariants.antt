use Rattle.std.proofs.Common.{◌≡◌, ◌++◌, drop}
use Rattle.std.specs.Prelude.{flat_map}
use Rattle.program_check.specs.Counted.{never_cleared}
use Rattle.program_check.proofs.counted.warn_of_reads.Given as goal

abbrev pub invariant-loop-read : goal.invariant-loop-read
invariant-loop-read l =
    l.warned.items ++ flat_map (never_cleared l.count l.calls) (drop l.read-index l.reads)
    ≡ l.fn.warned.items ++ flat_map (never_cleared l.count l.calls) l.reads
