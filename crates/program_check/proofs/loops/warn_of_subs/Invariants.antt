use Rattle.std.proofs.Common.{◌≡◌, ◌++◌, [], drop, map}
use Rattle.std.specs.Prelude.{flat_map}
use Rattle.vap_ast.specs.Tree.{routine_of}
use Rattle.program_check.specs.Loops.{items_loops}
use Rattle.program_check.proofs.loops.warn_of_subs.Given as goal

abbrev pub invariant-loop-sub : goal.invariant-loop-sub
invariant-loop-sub l =
    l.warned.items ++ flat_map (items_loops []) (map (λ r. r.body) (map routine_of (drop l.sub-index l.subs))) ≡ l.fn.warned.items
    ++ flat_map (items_loops []) (map (λ r. r.body) (map routine_of l.subs))
