use Rattle.std.proofs.Common.{◌≡◌, ◌++◌, map}
use Rattle.std.specs.Prelude.{filter, nat_lt}
use Rattle.site_check.specs.Further.{of_record}
use Rattle.site_check.proofs.further.tell_records.Given as goal

abbrev pub invariant-loop-record : goal.invariant-loop-record
invariant-loop-record l =
    l.findings.items ≡ l.fn.findings.items ++ map (of_record l.file) (filter (λ r. nat_lt l.behind r.0) l.yielded)
