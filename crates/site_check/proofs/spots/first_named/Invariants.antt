use Rattle.std.proofs.Common.{◌≤◌}
use Rattle.site_check.proofs.NamedTokens.{NoneNamed}
use Rattle.site_check.proofs.spots.first_named.Given as goal

-- none was found
abbrev pub invariant-loop-k : goal.invariant-loop-k
invariant-loop-k l = (l.fn.range.0 ≤ l.k) × NoneNamed l.tokens l.fn.range.0 l.k l.line l.name
