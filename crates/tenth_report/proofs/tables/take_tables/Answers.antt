use Rattle.std.proofs.Common.{◌≡◌, ◌∙◌, subst}
use Rattle.site_load.specs.Stop.{IsLoadStop}
use Rattle.tenth_report.specs.Tables.{intergreens_at}
use Rattle.tenth_report.proofs.TablesLoad.{no_intergreens, no_times}
use Rattle.tenth_report.proofs.tables.take_tables.Goals as goal

pub returns-in-Err-clause-tables : goal.returns-in-Err-clause-tables
returns-in-Err-clause-tables g c = λ file e.
    no_times file c.args.times.now c.args.intergreens.now c.args.plan c.in-Err.stop (c.in-Err.ensures.times file e)

pub returns-in-Err-take_intergreens-clause-tables : goal.returns-in-Err-take_intergreens-clause-tables
returns-in-Err-take_intergreens-clause-tables g c = λ file e.
    let e1 = c.take_times.ensures.contents_stay ∙ e in
    let plan : c.in-Ok.taken.0 ≡ c.args.plan = c.in-Ok.ensures.plan in
    no_intergreens file c.args.times.now c.args.intergreens.now c.args.plan c.in-Ok.taken.1 c.in-Err-take_intergreens.stop
    (c.in-Ok.ensures.times file e)
    (subst (λ p. IsLoadStop (λ w. w ≡ c.args.intergreens.now) c.in-Err-take_intergreens.stop (intergreens_at file c.args.intergreens.now p)) plan
    (c.in-Err-take_intergreens.ensures.intergreens file e1))
