use Rattle.std.proofs.Common.{◌≡◌, drop, map}
use Rattle.vap_ast.specs.Tree.{routine_of}
use Rattle.vap_check.specs.FirstFinding.{first_of_all}
use Rattle.vap_check.specs.Names.{among, with_names}
use Rattle.vap_check.specs.KeptNames.{kind_in, taken_in}
use Rattle.vap_check.specs.Findings.{subs_findings}
use Rattle.vap_check.proofs.declarations.judge_subs.Given as goal

abbrev pub invariant-loop-sub : goal.invariant-loop-sub
invariant-loop-sub l = record {
  above : among (with_names l.above.keys (map (λ r. r.name) (map routine_of (drop l.sub-index l.subs)))) ≡ among
      (with_names l.fn.above.keys (map (λ r. r.name) (map routine_of l.subs)));
  found : first_of_all l.first (subs_findings (kind_in l.known) (taken_in l.known) l.above.keys (map routine_of (drop l.sub-index l.subs))) ≡
      first_of_all l.fn.first (subs_findings (kind_in l.known) (taken_in l.known) l.fn.above.keys (map routine_of l.subs));
}
