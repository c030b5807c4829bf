use Rattle.std.proofs.Common.{◌≡◌, [], drop, map}
use Rattle.vap_ast.specs.Tree.{routine_of}
use Rattle.vap_check.specs.Names.{with_names}
use Rattle.vap_check.proofs.gather.sub_names.Given as goal

abbrev pub invariant-loop-sub : goal.invariant-loop-sub
invariant-loop-sub l = with_names l.names.keys (map (λ r. r.name) (map routine_of (drop l.sub-index l.subs))) ≡ with_names []
    (map (λ r. r.name) (map routine_of l.subs))
