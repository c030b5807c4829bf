use Rattle.std.proofs.Common.{ap, sym, ◌∙◌, ◌+◌, map, drop}
use Rattle.vap_ast.specs.Tree.{routine_of}
use Rattle.vap_check.specs.declared.kinds.Declared.TheVariants as what
use Rattle.vap_check.specs.KeptNames.{declared_in, with_all}
use Rattle.vap_check.proofs.Alike.{each_at}
use Rattle.vap_check.proofs.gather.note_subs.Goals as goal

pub loop-sub-preserved : goal.loop-sub-preserved
loop-sub-preserved c =
    let here = each_at routine_of c.args.subs.now c.loop-sub.sub-index c.sub-item.result c.loop-sub-test.true c.sub-item.is in
    let rest = map (λ r. r.name) (map routine_of (drop (c.loop-sub.sub-index + 1) c.args.subs.now)) in
    ap (λ known. with_all what.Sub known rest) c.in_ok-note.ensures.noted
    ∙ ap (λ xs. with_all what.Sub (declared_in c.loop-sub.known) (map (λ r. r.name) xs)) (sym here) ∙ c.loop-sub.invariant
