use Rattle.std.proofs.Common.{◌≡◌, ◌∙◌, Bool, Ok, Err, refl, sym, ap, subst}
use Rattle.site_load.specs.Stop.{IsLoadStop}
use Rattle.pua_model.specs.Plan.{PlanOf}
use Rattle.tenth_records.specs.Answers.{record_told}
use Rattle.tenth_records.specs.Names.{plan_of_names}
use Rattle.tenth_report.specs.Form.{asked_in}
use Rattle.tenth_report.specs.Tables.{ReachedInTables, rules_at, rules_by_tables}
use Rattle.tenth_report.proofs.Entries.{fault_of, no_write_of}
use Rattle.tenth_report.proofs.RecordCalls.{open_stopped}
use Rattle.tenth_report.proofs.call.do_form.Goals as goal

pub returns-in-Err-clause-answered : goal.returns-in-Err-clause-answered
returns-in-Err-clause-answered g c = λ file e.
    open_stopped (asked_in c.args.form.now) file c.in-Err.stop c.stop_of.result _ _ c.stop_of.ensures (c.in-Err.ensures.opened file e) refl

pub returns-in-Err-clause-read : goal.returns-in-Err-clause-read
returns-in-Err-clause-read g c is =
    c.in-Err.ensures.cause (ap Err (fault_of Bool c.args.form.now.file.now c.in-Err.stop c.stop_of.result c.stop_of.ensures is))

pub returns-in-Err-clause-write : goal.returns-in-Err-clause-write
returns-in-Err-clause-write g c is = absurd (no_write_of Bool c.args.form.now.file.now c.in-Err.stop c.stop_of.result c.stop_of.ensures is)

pub returns-in-Err-take_tables-clause-answered : goal.returns-in-Err-take_tables-clause-answered
returns-in-Err-take_tables-clause-answered g c = λ file e.
    let form = c.args.form.now in
    let plan : c.in-Ok.opened.1 ≡ plan_of_names c.in-Ok.opened.1.names = c.in-Ok.ensures.plan in (
      refl,
      record {
        names = c.in-Ok.opened.1.names;
        header = (c.in-Ok.ensures.opened file e).0;
        stop_is = subst (λ (p : PlanOf). IsLoadStop (λ w. ReachedInTables file form.times.now form.intergreens.now p w) c.in-Err-take_tables.stop
            (rules_at file form.times.now form.intergreens.now p)) plan
            (c.in-Err-take_tables.ensures.tables file (c.open.ensures.contents_stay ∙ e));
      },
    )

pub returns-clause-answered : goal.returns-clause-answered
returns-clause-answered g c = λ file e.
    let form = c.args.form.now in
    let opened = c.in-Ok.ensures.opened file e in
    let e1 = c.open.ensures.contents_stay ∙ e in
    let e2 = c.take_tables.ensures.contents_stay ∙ e1 in
    let named : c.in-Ok.opened.1 ≡ plan_of_names c.in-Ok.opened.1.names = c.in-Ok.ensures.plan in
    let plan : c.in-Ok-take_tables.tables.plan ≡ c.in-Ok.opened.1 = c.in-Ok-take_tables.ensures.plan in
    c.do_task.ensures.done file e2
    (opened.0 ∙ ap (λ (p : PlanOf). Ok p.names) (sym plan))
    (subst (λ (p : PlanOf). rules_at file form.times.now form.intergreens.now p ≡ Ok (rules_by_tables c.in-Ok-take_tables.tables))
    (named ∙ ap (λ (p : PlanOf). plan_of_names p.names) (sym plan)) (c.in-Ok-take_tables.ensures.tables file e1))
    (opened.1 ∙ ap (λ (p : PlanOf). record_told p.names (file form.file.now)) (sym plan))
