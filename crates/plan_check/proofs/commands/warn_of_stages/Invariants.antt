-- The warnings of the stages that were seen.
use Rattle.std.proofs.Common.{◌≡◌, ◌+◌, ◌++◌}
use Rattle.std.specs.List.{filter_map}
use Rattle.sig_types.specs.Words.{tabulate}
use Rattle.plan_check.specs.Warnings.{command_warning}
use Rattle.plan_check.proofs.commands.warn_of_stages.Given as goal

abbrev pub invariant-loop-s : goal.invariant-loop-s
invariant-loop-s l = l.warnings.items ≡ l.fn.warnings.items ++ filter_map (command_warning l.plan l.ways) (tabulate (λ k. k + 1) l.s)
