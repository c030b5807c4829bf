use Rattle.std.proofs.Common.{◌≡◌, ◌++◌, drop}
use Rattle.std.specs.Prelude.{flat_map, nat_eq}
use Rattle.program_check.specs.Counted.{count_read, count_reads}
use Rattle.program_check.specs.Firsts.{firsts_beyond}
use Rattle.program_check.proofs.counted.count_reads.Given as goal

abbrev pub invariant-loop-call : goal.invariant-loop-call
invariant-loop-call l =
    l.reads.items ++ firsts_beyond nat_eq (λ r. r.detector.0) l.seen.items (flat_map (count_read l.count) (drop l.call-index l.calls))
    ≡ count_reads l.count l.calls
