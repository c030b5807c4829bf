use Rattle.std.proofs.Common.{◌≡◌, ◌++◌, drop, map}
use Rattle.vap_ast.specs.Tree.{routine_of}
use Rattle.program_check.specs.declared.lacks.Lack.TheVariants as lack
use Rattle.program_check.specs.Lacks.{sub_named, unused}
use Rattle.program_check.proofs.lacks.warn_of_subs.Given as goal

abbrev pub invariant-loop-sub : goal.invariant-loop-sub
invariant-loop-sub l =
    l.warned.items ++ unused lack.UncalledSub l.used.keys (map sub_named (map routine_of (drop l.sub-index l.subs)))
    ≡ l.fn.warned.items ++ unused lack.UncalledSub l.used.keys (map sub_named (map routine_of l.subs))
