use Rattle.std.proofs.Common.{rules, ◌≡◌, ◌∙◌, ◌++◌, ℕ, List, None, sym, ap, length, take, drop}
use Rattle.std.specs.Prelude.{All}
use Rattle.std.proofs.lemmas.Result.{err_from_is_err_and, IfOk-weaker, IfErr-weaker}
use Rattle.std.proofs.Math.Seq.{take-append_seam}
use Rattle.pua_model.specs.Plan.{PlanOf, groups_in}
use Rattle.sig_tables.specs.declared.header.Table.TheVariants.{Times}
use Rattle.sig_tables.specs.Records.{Row, table_rows}
use Rattle.sig_tables.specs.Refusals.{IsRefusal}
use Rattle.tenth_tables.specs.Times.{IsRow, missing_times, times_below, times_refused}
use Rattle.tenth_tables.specs.Held.{HasHeader, HasTimes, HoldsTimes, ReadsTimes}
use Rattle.tenth_tables.proofs.TimesRead.{begun, moved, times_last}
use Rattle.tenth_tables.proofs.times_reader.times_by.Goals as goal

pub take_times-requires-clause-begins : goal.take_times-requires-clause-begins
take_times-requires-clause-begins c =
    let h = c.requires.begins.1 in
    let reads : ReadsTimes c.args.plan.now c.len-fields.result c.requires.begins.0 c.args.records.now c.deref_mut.result.now =
    rw c.deref_mut.ensures.value (begun c.args.plan.now c.len-fields.result c.requires.begins.0 c.args.records.now c.in_ok-held.held.items h.0 h.1.0 h.1.1
    (ap length (sym h.1.2) ∙ sym c.len-fields.ensures) c.in_ok-held.ensures.empty c.in_ok-held.ensures.at_least c.in_ok-held.ensures.at_most) in
    (c.requires.begins.0, reads)

pub returns-in_err-take_times-clause-refused : goal.returns-in_err-take_times-clause-refused
returns-in_err-take_times-clause-refused c =
    let p = err_from_is_err_and c.from_residual-in_err-take_times.result c.from_residual-in_err-take_times.ensures.1 in
    rw (p.1, p.2) (λ text h.
    let reads : ReadsTimes c.args.plan.now c.len-fields.result text c.args.records.now c.deref_mut.result.now =
    rw c.deref_mut.ensures.value (begun c.args.plan.now c.len-fields.result text c.args.records.now c.in_ok-held.held.items h.0 h.1.0 h.1.1
    (ap length (sym h.1.2) ∙ sym c.len-fields.ensures) c.in_ok-held.ensures.empty c.in_ok-held.ensures.at_least c.in_ok-held.ensures.at_most) in
    c.in_err-take_times.ensures.refused text reads)

pub returns-clause-refused : goal.returns-clause-refused
returns-clause-refused c =
    let size : c.in_ok-held.held.len ≡ length c.take_times.new.held = search rules in
    let written : take c.in_ok-held.held.len (c.take_times.new.held ++ drop (length c.take_times.new.held) c.in_ok-held.held.items) ≡ c.take_times.new.held =
    ap (λ n. take n (c.take_times.new.held ++ drop (length c.take_times.new.held) c.in_ok-held.held.items)) size ∙ take-append_seam c.take_times.new.held _ in
    IfErr-weaker c.complete.result
    (λ e. (plan : PlanOf) (rows : List Row) → HoldsTimes plan rows c.deref.result.now → IsRefusal (missing_times plan rows) e)
    (λ e. (text : List ℕ) → HasHeader Times c.args.records.now text → IsRefusal (times_refused c.args.plan.now (table_rows text)) e)
    (λ e missing text h.
    let reads : ReadsTimes c.args.plan.now c.len-fields.result text c.args.records.now c.deref_mut.result.now =
    rw c.deref_mut.ensures.value (begun c.args.plan.now c.len-fields.result text c.args.records.now c.in_ok-held.held.items h.0 h.1.0 h.1.1
    (ap length (sym h.1.2) ∙ sym c.len-fields.ensures) c.in_ok-held.ensures.empty c.in_ok-held.ensures.at_least c.in_ok-held.ensures.at_most) in
    let has : HasTimes c.args.plan.now text c.take_times.new.held = c.in_ok-take_times.ensures.read text reads in
    let holds = moved c.args.plan.now has.rows c.deref.result.now c.take_times.new.held (c.deref.ensures.value ∙ written) has.holds in
    rw has.refused (missing c.args.plan.now has.rows holds))
    c.complete.ensures.missing

pub returns-clause-accepted : goal.returns-clause-accepted
returns-clause-accepted c =
    let size : c.in_ok-held.held.len ≡ length c.take_times.new.held = search rules in
    let written : take c.in_ok-held.held.len (c.take_times.new.held ++ drop (length c.take_times.new.held) c.in_ok-held.held.items) ≡ c.take_times.new.held =
    ap (λ n. take n (c.take_times.new.held ++ drop (length c.take_times.new.held) c.in_ok-held.held.items)) size ∙ take-append_seam c.take_times.new.held _ in
    IfOk-weaker c.complete.result
    (λ t. (plan : PlanOf) (rows : List Row) → HoldsTimes plan rows c.deref.result.now → missing_times plan rows ≡ None)
    (λ t. (text : List ℕ) → HasHeader Times c.args.records.now text → times_refused c.args.plan.now (table_rows text) ≡ None)
    (λ t whole text h.
    let reads : ReadsTimes c.args.plan.now c.len-fields.result text c.args.records.now c.deref_mut.result.now =
    rw c.deref_mut.ensures.value (begun c.args.plan.now c.len-fields.result text c.args.records.now c.in_ok-held.held.items h.0 h.1.0 h.1.1
    (ap length (sym h.1.2) ∙ sym c.len-fields.ensures) c.in_ok-held.ensures.empty c.in_ok-held.ensures.at_least c.in_ok-held.ensures.at_most) in
    let has : HasTimes c.args.plan.now text c.take_times.new.held = c.in_ok-take_times.ensures.read text reads in
    let holds = moved c.args.plan.now has.rows c.deref.result.now c.take_times.new.held (c.deref.ensures.value ∙ written) has.holds in
    has.refused ∙ whole c.args.plan.now has.rows holds)
    c.complete.ensures.complete

pub returns-clause-times : goal.returns-clause-times
returns-clause-times c =
    let size : c.in_ok-held.held.len ≡ length c.take_times.new.held = search rules in
    let written : take c.in_ok-held.held.len (c.take_times.new.held ++ drop (length c.take_times.new.held) c.in_ok-held.held.items) ≡ c.take_times.new.held =
    ap (λ n. take n (c.take_times.new.held ++ drop (length c.take_times.new.held) c.in_ok-held.held.items)) size ∙ take-append_seam c.take_times.new.held _ in
    IfOk-weaker c.complete.result
    (λ t. (plan : PlanOf) (rows : List Row) → HoldsTimes plan rows c.deref.result.now → t.items ≡ times_below plan rows (groups_in plan))
    (λ t. (text : List ℕ) → HasHeader Times c.args.records.now text → t.items ≡ times_below c.args.plan.now (drop 1 (table_rows text)) (groups_in c.args.plan.now))
    (λ t times text h.
    let reads : ReadsTimes c.args.plan.now c.len-fields.result text c.args.records.now c.deref_mut.result.now =
    rw c.deref_mut.ensures.value (begun c.args.plan.now c.len-fields.result text c.args.records.now c.in_ok-held.held.items h.0 h.1.0 h.1.1
    (ap length (sym h.1.2) ∙ sym c.len-fields.ensures) c.in_ok-held.ensures.empty c.in_ok-held.ensures.at_least c.in_ok-held.ensures.at_most) in
    let has : HasTimes c.args.plan.now text c.take_times.new.held = c.in_ok-take_times.ensures.read text reads in
    let holds = moved c.args.plan.now has.rows c.deref.result.now c.take_times.new.held (c.deref.ensures.value ∙ written) has.holds in
    times c.args.plan.now has.rows holds ∙ sym (times_last c.args.plan.now text c.take_times.new.held has))
    c.complete.ensures.times

pub returns-clause-range : goal.returns-clause-range
returns-clause-range c =
    let size : c.in_ok-held.held.len ≡ length c.take_times.new.held = search rules in
    let written : take c.in_ok-held.held.len (c.take_times.new.held ++ drop (length c.take_times.new.held) c.in_ok-held.held.items) ≡ c.take_times.new.held =
    ap (λ n. take n (c.take_times.new.held ++ drop (length c.take_times.new.held) c.in_ok-held.held.items)) size ∙ take-append_seam c.take_times.new.held _ in
    let text = c.requires.begins.0 in
    let h = c.requires.begins.1 in
    let reads : ReadsTimes c.args.plan.now c.len-fields.result text c.args.records.now c.deref_mut.result.now =
    rw c.deref_mut.ensures.value (begun c.args.plan.now c.len-fields.result text c.args.records.now c.in_ok-held.held.items h.0 h.1.0 h.1.1
    (ap length (sym h.1.2) ∙ sym c.len-fields.ensures) c.in_ok-held.ensures.empty c.in_ok-held.ensures.at_least c.in_ok-held.ensures.at_most) in
    let has : HasTimes c.args.plan.now text c.take_times.new.held = c.in_ok-take_times.ensures.read text reads in
    let holds = moved c.args.plan.now has.rows c.deref.result.now c.take_times.new.held (c.deref.ensures.value ∙ written) has.holds in
    IfOk-weaker c.complete.result _ (λ t. All IsRow t.items) (λ t range. range c.args.plan.now has.rows holds) c.complete.ensures.range
