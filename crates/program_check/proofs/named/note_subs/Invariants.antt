use Rattle.std.proofs.Common.{◌≡◌, drop, map}
use Rattle.std.specs.Prelude.{flat_map}
use Rattle.vap_ast.specs.Tree.{routine_of}
use Rattle.vap_check.specs.Names.{with_names}
use Rattle.program_check.specs.Names.{items_uses, name_as}
use Rattle.program_check.proofs.named.note_subs.Given as goal

abbrev pub invariant-loop-sub : goal.invariant-loop-sub
invariant-loop-sub l =
    with_names l.names.keys (flat_map (items_uses (λ line. name_as l.wanted)) (map (λ r. r.body) (map routine_of (drop l.sub-index l.subs))))
    ≡ with_names l.fn.names.keys (flat_map (items_uses (λ line. name_as l.wanted)) (map (λ r. r.body) (map routine_of l.subs)))
