use Rattle.std.proofs.Common.{◌∙◌, sym, subst, Some, map, take}
use Rattle.sig_io.specs.Memory.{contents_of}
use Rattle.junction_net.specs.declared.jobs.Job.{Job}
use Rattle.sig_io.specs.declared.sure.SureFiles.{SureFiles}
use Rattle.junction_net.specs.Load.{IsHeldBy}
use Rattle.junction_net.specs.Rows.{words_in}
use Rattle.junction_net.proofs.Reading.{map_more}
use Rattle.junction_net.proofs.Holding.{holds_more, map_first, stops_at_row}
use Rattle.junction_net.proofs.Taking.{ready_more}
use Rattle.junction_net.proofs.load.load_jobs.Goals as goal

pub returns-in-Err-clause-unread : goal.returns-in-Err-clause-unread
returns-in-Err-clause-unread g c = λ file e.
    let holds = c.loop-names.invariant.0 in
    stops_at_row file c.rows-rows.result.now c.args.list.now c.loop-names.names-index c.names-item.result c.in-Err.stop c.loop-names-test.true
    (sym c.names-item.is)
    c.rows-rows.ensures.rows (holds.held file e).short (c.in-Err.ensures.unread file (holds.stay ∙ e))

pub loop-names-preserved : goal.loop-names-preserved
loop-names-preserved g c =
    let rows = c.rows-rows.result.now in
    let k = c.loop-names.names-index in
    let row = c.names-item.result in
    rw (c.in_ok-push-in-Ok.ensures.items, map_more (λ (job : Job). Some (contents_of job.files.files.items)) c.loop-names.jobs.items c.in_ok-job-in-Ok.job) (
      holds_more _ _ _ _ _ _ rows k row _ _ c.loop-names-test.true (sym c.names-item.is) c.loop-names.invariant.0
          c.hold_files.ensures.contents_stay c.hold_files.ensures.later
          (λ file e. subst (λ (h : SureFiles). IsHeldBy file (words_in row) (Some (contents_of h.files.items))) (sym c.in_ok-job-in-Ok.ensures.files)
          (c.in-Ok.ensures.held file e)) c.in-Ok.ensures.short,
      rw (map_first rows k row c.loop-names-test.true (sym c.names-item.is))
          (ready_more (map words_in (take k rows)) (words_in row) c.loop-names.jobs.items c.in_ok-job-in-Ok.job c.loop-names.invariant.1
          c.in_ok-job-in-Ok.ensures.ready),
    )
