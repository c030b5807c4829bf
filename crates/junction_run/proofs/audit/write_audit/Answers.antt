use Rattle.std.proofs.Common.{[], subst}
use Rattle.sig_io.proofs.Drafts.{same_put, then}
use Rattle.junction_run.proofs.AuditEnds.{judged_text-is}
use Rattle.junction_run.proofs.Ends.{some_cut}
use Rattle.junction_run.proofs.audit.write_audit.Goals as goal

pub returns-clause-written : goal.returns-clause-written
returns-clause-written g c =
    let put = c.put_inters.ensures in
    let start = g.O.Sink.taken c.args.out.now in
    let whole = same_put (judged_text-is c.args.plan.now c.args.verdict put.0) (then (then c.put_verdict.ensures c.put.ensures) put.2) in
    let is = whole.text start [] (c.new-draft.ensures.text start) in
    (put.0, put.1, c.finish.ensures.ok start _ is, some_cut c.finish.result _ _ _ (c.finish.ensures.fault start _ is))
