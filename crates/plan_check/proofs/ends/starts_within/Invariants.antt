-- Whether one of those that were seen passes.
use Rattle.std.proofs.Common.{◌≡◌}
use Rattle.std.specs.List.{list_any}
use Rattle.sig_types.specs.Words.{tabulate}
use Rattle.plan_check.specs.Ends.{starts_at}
use Rattle.plan_check.proofs.ends.starts_within.Given as goal

abbrev pub invariant-loop-t : goal.invariant-loop-t
invariant-loop-t l = l.any ≡ list_any (starts_at l.plan l.inter.0 l.group.0) (tabulate (λ k. k) l.t)
