use Rattle.std.proofs.Common.{◌∙◌, ◌∷◌, [], ◌++◌, refl, subst}
use Rattle.sig_io.proofs.Drafts.{nothing, same_put, then}
use Rattle.sig_audit.specs.Trial.{IsInterEnd}
use Rattle.junction_run.proofs.Audits.{no_ends, one_more_end, more_lines}
use Rattle.junction_run.proofs.audit_text.put_inters.Goals as goal

pub loop-i-init : goal.loop-i-init
loop-i-init g c = record { put = ([], no_ends c.args.plan.now _, nothing); kept = refl }

pub loop-i-preserved : goal.loop-i-preserved
loop-i-preserved g c =
    let i = c.loop-i.invariant in
    let plan = c.args.plan.now in
    let ends = i.put.0 in
    let end = c.inter_check-end.result in
    let tried = subst (λ r. IsInterEnd plan r c.loop-i.i end) i.kept c.inter_check-end.ensures.end in
    record {
      put = (
        ends ++ end ∷ [],
        one_more_end plan _ c.loop-i.i ends end i.put.1 tried,
        same_put (more_lines plan c.loop-i.i ends end i.put.1.count) (then i.put.2 c.put_inter.ensures),
      );
      kept = c.inter_check-end.ensures.rules ∙ i.kept;
    }
