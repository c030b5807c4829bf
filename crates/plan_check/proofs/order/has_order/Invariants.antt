-- Whether one of the groups that were seen is in order.
use Rattle.std.proofs.Common.{◌≡◌}
use Rattle.std.specs.List.{list_any}
use Rattle.sig_types.specs.Words.{tabulate}
use Rattle.plan_check.specs.Warnings.{is_in_order}
use Rattle.plan_check.proofs.order.has_order.Given as goal

abbrev pub invariant-loop-g : goal.invariant-loop-g
invariant-loop-g l = l.any ≡ list_any (is_in_order l.times) (tabulate (λ g. g) l.g)
