use Rattle.std.proofs.Common.{◌≡◌, map, take}
use Rattle.vap_ast.specs.Tree.{array_of}
use Rattle.vap_compile.proofs.program.arrays_of.Given as goal

abbrev pub invariant-loop-decl : goal.invariant-loop-decl
invariant-loop-decl l =
    map (λ a. a.items) l.arrays.items ≡ map (λ a. a.values) (map array_of (take l.decl-index l.decls))
