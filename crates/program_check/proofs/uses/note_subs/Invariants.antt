use Rattle.std.proofs.Common.{◌≡◌, ◌++◌, drop, map}
use Rattle.std.specs.Prelude.{filter, flat_map}
use Rattle.vap_ast.specs.Tree.{routine_of}
use Rattle.program_check.specs.Names.{is_lacking, items_uses, site_as}
use Rattle.program_check.proofs.uses.note_subs.Given as goal

abbrev pub invariant-loop-sub : goal.invariant-loop-sub
invariant-loop-sub l =
    l.uses.items ++ filter (is_lacking l.checked.names l.wanted.sort l.others.keys)
    (flat_map (items_uses (site_as l.wanted.how)) (map (λ r. r.body) (map routine_of (drop l.sub-index l.subs))))
    ≡ l.fn.uses.items ++ filter (is_lacking l.checked.names l.wanted.sort l.others.keys)
    (flat_map (items_uses (site_as l.wanted.how)) (map (λ r. r.body) (map routine_of l.subs)))
