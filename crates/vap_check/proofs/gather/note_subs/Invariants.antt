use Rattle.std.proofs.Common.{◌≡◌, drop, map}
use Rattle.vap_ast.specs.Tree.{routine_of}
use Rattle.vap_check.specs.KeptNames.{declared_in, with_all}
use Rattle.vap_check.specs.declared.kinds.Declared.TheVariants as what
use Rattle.vap_check.proofs.gather.note_subs.Given as goal

abbrev pub invariant-loop-sub : goal.invariant-loop-sub
invariant-loop-sub l = with_all what.Sub (declared_in l.known) (map (λ r. r.name) (map routine_of (drop l.sub-index l.subs))) ≡ with_all what.Sub
    (declared_in l.fn.known) (map (λ r. r.name) (map routine_of l.subs))
