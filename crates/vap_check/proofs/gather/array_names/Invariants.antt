use Rattle.std.proofs.Common.{◌≡◌, [], drop, map}
use Rattle.vap_ast.specs.Tree.{array_of}
use Rattle.vap_check.specs.Names.{with_names}
use Rattle.vap_check.proofs.gather.array_names.Given as goal

abbrev pub invariant-loop-decl : goal.invariant-loop-decl
invariant-loop-decl l = with_names l.names.keys (map (λ a. a.name) (map array_of (drop l.decl-index l.decls))) ≡ with_names []
    (map (λ a. a.name) (map array_of l.decls))
