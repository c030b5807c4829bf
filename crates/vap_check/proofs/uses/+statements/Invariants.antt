use Rattle.std.proofs.Common.{◌≡◌, drop}
use Rattle.vap_ast.specs.Tree.{items_of}
use Rattle.vap_check.specs.FirstFinding.{first_of_all}
use Rattle.vap_check.specs.KeptNames.{items_findings}
use Rattle.vap_check.proofs.uses.+statements.Given as goal

abbrev pub invariant-judge_items-loop-each : goal.invariant-judge_items-loop-each
invariant-judge_items-loop-each l = first_of_all l.first (items_findings l.scope (items_of (drop l.each-index l.items))) ≡ first_of_all l.fn.first
    (items_findings l.scope (items_of l.items))
