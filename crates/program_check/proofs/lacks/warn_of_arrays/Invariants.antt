use Rattle.std.proofs.Common.{◌≡◌, ◌++◌, drop, map}
use Rattle.vap_ast.specs.Tree.{array_of}
use Rattle.program_check.specs.declared.lacks.Lack.TheVariants as lack
use Rattle.program_check.specs.Lacks.{array_named, unused}
use Rattle.program_check.proofs.lacks.warn_of_arrays.Given as goal

abbrev pub invariant-loop-decl : goal.invariant-loop-decl
invariant-loop-decl l =
    l.warned.items ++ unused lack.UnreadArray l.used.keys (map array_named (map array_of (drop l.decl-index l.arrays)))
    ≡ l.fn.warned.items ++ unused lack.UnreadArray l.used.keys (map array_named (map array_of l.arrays))
