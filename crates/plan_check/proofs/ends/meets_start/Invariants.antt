-- Whether one of those that were seen passes.
use Rattle.std.proofs.Common.{◌≡◌}
use Rattle.std.specs.List.{list_any}
use Rattle.sig_types.specs.Words.{tabulate}
use Rattle.sig_tables.specs.Pairs.{between}
use Rattle.plan_check.specs.Ends.{starts_beside}
use Rattle.plan_check.proofs.ends.meets_start.Given as goal

abbrev pub invariant-loop-o : goal.invariant-loop-o
invariant-loop-o l =
    l.any ≡ list_any (starts_beside l.plan (between l.intergreens) l.inter.0 l.group.0) (tabulate (λ k. k) l.o)
