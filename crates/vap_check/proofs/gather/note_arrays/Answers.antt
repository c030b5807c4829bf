use Rattle.std.proofs.Common.{ap, sym, ◌∙◌, ◌+◌, map, drop}
use Rattle.vap_ast.specs.Tree.{array_of}
use Rattle.vap_check.specs.declared.kinds.Declared.TheVariants as what
use Rattle.vap_check.specs.KeptNames.{declared_in, with_all}
use Rattle.vap_check.proofs.Alike.{each_at}
use Rattle.vap_check.proofs.gather.note_arrays.Goals as goal

pub loop-decl-preserved : goal.loop-decl-preserved
loop-decl-preserved c =
    let here = each_at array_of c.args.decls.now c.loop-decl.decl-index c.decl-item.result c.loop-decl-test.true c.decl-item.is in
    let rest = map (λ a. a.name) (map array_of (drop (c.loop-decl.decl-index + 1) c.args.decls.now)) in
    ap (λ known. with_all what.Array known rest) c.in_ok-note.ensures.noted
    ∙ ap (λ xs. with_all what.Array (declared_in c.loop-decl.known) (map (λ a. a.name) xs)) (sym here) ∙ c.loop-decl.invariant
