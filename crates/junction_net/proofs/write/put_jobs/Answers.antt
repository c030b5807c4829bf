use Rattle.std.proofs.Common.{◌≡◌, ◌+◌, sym, subst, arith}
use Rattle.std.specs.Io.KnownBytes.{append_known}
use Rattle.sig_io.specs.Draft.{IsCut}
use Rattle.junction_net.specs.Jobs.{result_of}
use Rattle.junction_net.specs.Results.{job_text}
use Rattle.junction_net.proofs.Texts.{text_all, text_cut, text_more}
use Rattle.junction_net.proofs.write.put_jobs.Goals as goal

pub returns-in-Err-clause-fault : goal.returns-in-Err-clause-fault
returns-in-Err-clause-fault g c =
    let cut = c.in-Err.ensures.fault in
    text_cut _ _ _ c.args.jobs.now c.loop-job.job-index cut.0 c.job-item.result c.loop-job-test.true (sym c.job-item.is) c.loop-job.invariant.0
    (subst (λ m. IsCut (g.O.Sink.taken c.loop-job.out) (g.O.Sink.taken c.put_job.new.out) cut.0 (job_text (m + 1) (result_of c.job-item.result)))
    c.loop-job.invariant.2 cut.1)

pub loop-job-preserved : goal.loop-job-preserved
loop-job-preserved g c = (
  text_more _ _ _ c.args.jobs.now c.loop-job.job-index c.job-item.result c.loop-job-test.true (sym c.job-item.is) c.loop-job.invariant.0
      (subst (λ m. g.O.Sink.taken c.put_job.new.out ≡ append_known (g.O.Sink.taken c.loop-job.out) (job_text (m + 1) (result_of c.job-item.result)))
      c.loop-job.invariant.2 c.in-Ok.ensures.ok),
  omega (arith, c.loop-job.invariant.1, c.put_job.ensures.cause.later),
  omega (arith, c.loop-job.invariant.2),
)

pub returns-clause-ok : goal.returns-clause-ok
returns-clause-ok g c = text_all _ _ c.args.jobs.now c.loop-job.job-index (omega (arith, c.loop-job-test.false)) c.loop-job.invariant.0
