use Rattle.std.proofs.Common.{◌≡◌, drop, map}
use Rattle.vap_ast.specs.Tree.{array_of}
use Rattle.vap_check.specs.KeptNames.{declared_in, with_all}
use Rattle.vap_check.specs.declared.kinds.Declared.TheVariants as what
use Rattle.vap_check.proofs.gather.note_arrays.Given as goal

abbrev pub invariant-loop-decl : goal.invariant-loop-decl
invariant-loop-decl l = with_all what.Array (declared_in l.known) (map (λ a. a.name) (map array_of (drop l.decl-index l.decls))) ≡ with_all
    what.Array (declared_in l.fn.known) (map (λ a. a.name) (map array_of l.decls))
