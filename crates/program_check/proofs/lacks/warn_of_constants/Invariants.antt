use Rattle.std.proofs.Common.{◌≡◌, ◌++◌, drop, map}
use Rattle.vap_ast.specs.Tree.{constant_of}
use Rattle.program_check.specs.declared.lacks.Lack.TheVariants as lack
use Rattle.program_check.specs.Lacks.{constant_named, unused}
use Rattle.program_check.proofs.lacks.warn_of_constants.Given as goal

abbrev pub invariant-loop-decl : goal.invariant-loop-decl
invariant-loop-decl l =
    l.warned.items ++ unused lack.UnusedConstant l.used.keys (map constant_named (map constant_of (drop l.decl-index l.consts)))
    ≡ l.fn.warned.items ++ unused lack.UnusedConstant l.used.keys (map constant_named (map constant_of l.consts))
