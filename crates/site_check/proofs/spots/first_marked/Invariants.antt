use Rattle.std.proofs.Common.{◌≤◌}
use Rattle.site_check.proofs.spots.first_marked.Given as goal

-- no place before the first one is looked at
abbrev pub invariant-loop-k : goal.invariant-loop-k
invariant-loop-k l = l.fn.range.0 ≤ l.k
