use Rattle.std.proofs.Common.{◌≡◌, ◌+◌, ◌≤◌, length, drop, map}
use Rattle.std.specs.Prelude.{min, flat_map}
use Rattle.vap_ast.specs.Tree.{routine_of}
use Rattle.vap_check.specs.Names.{items_labels}
use Rattle.vap_check.proofs.limits.count_subs_labels.Given as goal

abbrev pub invariant-loop-sub : goal.invariant-loop-sub
invariant-loop-sub l = (min (l.total + length (flat_map items_labels (map (λ r. r.body) (map routine_of (drop l.sub-index l.subs))))) 65536 ≡ min
    (length (flat_map items_labels (map (λ r. r.body) (map routine_of l.subs)))) 65536) × (l.total ≤ 65536)
