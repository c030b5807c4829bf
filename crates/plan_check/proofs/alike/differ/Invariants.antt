-- Whether one of the groups that were seen is green in one of the two stages alone.
use Rattle.std.proofs.Common.{◌≡◌}
use Rattle.std.specs.List.{list_any}
use Rattle.sig_types.specs.Words.{tabulate}
use Rattle.plan_check.specs.Warnings.{is_green_in_one}
use Rattle.plan_check.proofs.alike.differ.Given as goal

abbrev pub invariant-loop-g : goal.invariant-loop-g
invariant-loop-g l = l.any ≡ list_any (is_green_in_one l.plan l.a.0 l.b.0) (tabulate (λ g. g) l.g)
