use Rattle.std.proofs.Common.{◌≡◌, ◌++◌, drop}
use Rattle.std.specs.List.{filter_map}
use Rattle.program_check.specs.Counted.{cycle_kind, cycle_read, first_of}
use Rattle.program_check.proofs.counted.warn_of_first.Given as goal

abbrev pub invariant-loop-call : goal.invariant-loop-call
invariant-loop-call l =
    l.warned.items ++ first_of (filter_map (λ c. cycle_read c.line (cycle_kind c.kind)) (drop l.call-index l.calls))
    ≡ l.fn.warned.items ++ first_of (filter_map (λ c. cycle_read c.line (cycle_kind c.kind)) l.calls)
