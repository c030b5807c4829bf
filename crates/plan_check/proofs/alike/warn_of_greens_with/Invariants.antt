-- The warnings of the stages that were seen.
use Rattle.std.proofs.Common.{◌≡◌, ◌+◌, ◌++◌}
use Rattle.std.specs.List.{filter_map}
use Rattle.sig_types.specs.Words.{tabulate}
use Rattle.plan_check.specs.Warnings.{same_warning}
use Rattle.plan_check.proofs.alike.warn_of_greens_with.Given as goal

abbrev pub invariant-loop-s : goal.invariant-loop-s
invariant-loop-s l =
    l.warnings.items ≡ l.fn.warnings.items ++ filter_map (λ a. same_warning l.plan a l.b.0) (tabulate (λ k. k + 1) l.s)
