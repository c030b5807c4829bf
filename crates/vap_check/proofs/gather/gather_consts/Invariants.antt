use Rattle.std.proofs.Common.{◌≡◌, ℕ, List, [], None, is_some, drop, map}
use Rattle.vap_ast.specs.Tree.{constant_of}
use Rattle.vap_check.specs.FirstFinding.{first_of_all}
use Rattle.vap_check.specs.Findings.{const_findings}
use Rattle.vap_check.specs.KeptNames.{declared_in, with_constants}
use Rattle.vap_check.specs.Names.{among}
use Rattle.vap_check.proofs.gather.gather_consts.Given as goal

-- the names so far, as a list of which the findings of the others can be told
abbrev pub invariant-loop-decl : goal.invariant-loop-decl
invariant-loop-decl l = record {
  known : with_constants (declared_in l.known) (map constant_of (drop l.decl-index l.decls)) ≡ with_constants (λ name. None) (map constant_of l.decls);
  found : (seen : List (List ℕ)) × (among seen ≡ (λ q. is_some (declared_in l.known q)))
      × (first_of_all l.first (const_findings seen (map constant_of (drop l.decl-index l.decls))) ≡ first_of_all l.fn.first
      (const_findings [] (map constant_of l.decls)));
}
