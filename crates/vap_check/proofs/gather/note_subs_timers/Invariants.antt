use Rattle.std.proofs.Common.{◌≡◌, drop, map}
use Rattle.std.specs.Prelude.{flat_map}
use Rattle.vap_ast.specs.Tree.{routine_of}
use Rattle.vap_check.specs.Names.{items_timers}
use Rattle.vap_check.specs.KeptNames.{declared_in, with_all}
use Rattle.vap_check.specs.declared.kinds.Declared.TheVariants as what
use Rattle.vap_check.proofs.gather.note_subs_timers.Given as goal

abbrev pub invariant-loop-sub : goal.invariant-loop-sub
invariant-loop-sub l = with_all what.Timer (declared_in l.known)
    (flat_map items_timers (map (λ r. r.body) (map routine_of (drop l.sub-index l.subs)))) ≡ with_all what.Timer (declared_in l.fn.known)
    (flat_map items_timers (map (λ r. r.body) (map routine_of l.subs)))
