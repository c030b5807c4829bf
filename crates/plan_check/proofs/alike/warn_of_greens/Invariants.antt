-- The warnings of the stages that were seen.
use Rattle.std.proofs.Common.{◌≡◌, ◌+◌, ◌++◌}
use Rattle.std.specs.List.{flat_map}
use Rattle.sig_types.specs.Words.{tabulate}
use Rattle.plan_check.specs.Warnings.{same_before}
use Rattle.plan_check.proofs.alike.warn_of_greens.Given as goal

abbrev pub invariant-loop-s : goal.invariant-loop-s
invariant-loop-s l = l.warnings.items ≡ l.fn.warnings.items ++ flat_map (same_before l.plan) (tabulate (λ k. k + 1) l.s)
