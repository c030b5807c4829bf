use Rattle.std.proofs.Common.{◌≡◌, ◌++◌, drop, map}
use Rattle.vap_ast.specs.Tree.{items_of, program_of}
use Rattle.program_check.specs.Misuses.{items_misuses}
use Rattle.program_check.proofs.misuses.+statement_misuses.Given as goal

abbrev pub invariant-warn_of_items-loop-item : goal.invariant-warn_of_items-loop-item
invariant-warn_of_items-loop-item l =
    l.warned.items ++ items_misuses l.checked.names (program_of l.checked.tree).arrays l.plan (map (λ v. v.items) l.stages)
    (items_of (drop l.item-index l.items))
    ≡ l.fn.warned.items ++ items_misuses l.checked.names (program_of l.checked.tree).arrays l.plan (map (λ v. v.items) l.stages)
    (items_of l.items)
