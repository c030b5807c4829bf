use Rattle.std.proofs.Common.{◌≡◌, ◌+◌, ◌≤◌, drop, map}
use Rattle.std.specs.Prelude.{min}
use Rattle.vap_ast.specs.Tree.{routine_of}
use Rattle.vap_check.specs.Accepted.{bodies_size}
use Rattle.vap_check.proofs.limits.subs_size.Given as goal

abbrev pub invariant-loop-sub : goal.invariant-loop-sub
invariant-loop-sub l = (min (l.total + bodies_size (map (λ r. r.body) (map routine_of (drop l.sub-index l.subs)))) 65536 ≡ min
    (bodies_size (map (λ r. r.body) (map routine_of l.subs))) 65536) × (l.total ≤ 65536)
