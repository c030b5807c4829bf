use Rattle.sig_io.proofs.Drafts.{same_put, then}
use Rattle.junction_run.proofs.Audits.{inter_is}
use Rattle.junction_run.proofs.audit_text.put_inter.Goals as goal

pub returns : goal.returns
returns g c =
    same_put (inter_is c.args.plan.now c.args.i.0 c.args.end c.ends.result.0.0 c.ends.result.1.0 c.ends.ensures.from c.ends.ensures.to)
    (then (then c.put_stages.ensures c.put_end.ensures) c.put.ensures)
