use Rattle.std.proofs.Common.{◌≡◌, [], drop, map}
use Rattle.vap_ast.specs.Tree.{array_of}
use Rattle.vap_check.specs.FirstFinding.{first_of_all}
use Rattle.vap_check.specs.KeptNames.{line_in}
use Rattle.vap_check.specs.Findings.{array_findings}
use Rattle.vap_check.proofs.declarations.judge_arrays.Given as goal

abbrev pub invariant-loop-decl : goal.invariant-loop-decl
invariant-loop-decl l = first_of_all l.first (array_findings (line_in l.known) l.before.keys (map array_of (drop l.decl-index l.decls))) ≡
    first_of_all l.fn.first (array_findings (line_in l.known) [] (map array_of l.decls))
