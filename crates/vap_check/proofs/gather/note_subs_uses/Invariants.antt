use Rattle.std.proofs.Common.{◌≡◌, drop, map}
use Rattle.std.specs.Prelude.{flat_map}
use Rattle.vap_ast.specs.Tree.{routine_of}
use Rattle.vap_check.specs.Names.{items_uses}
use Rattle.vap_check.specs.KeptNames.{of_kind}
use Rattle.vap_check.specs.UpTo.{up_to, with_names_up_to}
use Rattle.vap_check.proofs.gather.note_subs_uses.Given as goal

abbrev pub invariant-loop-sub : goal.invariant-loop-sub
invariant-loop-sub l = with_names_up_to (up_to l.names)
    (of_kind l.known l.wanted (flat_map items_uses (map (λ r. r.body) (map routine_of (drop l.sub-index l.subs))))) ≡ with_names_up_to
    (up_to l.fn.names) (of_kind l.known l.wanted (flat_map items_uses (map (λ r. r.body) (map routine_of l.subs))))
