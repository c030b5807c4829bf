use Rattle.std.proofs.Common.{◌≡◌, ◌∙◌, Bool, None, refl, sym, ap, subst}
use Rattle.tenth_records.specs.Answers.{left_told, name_of, record_told}
use Rattle.tenth_report.specs.Form.{asked_in}
use Rattle.tenth_report.specs.Kept.{found_text}
use Rattle.tenth_report.specs.Stops.{IsRecordStop}
use Rattle.tenth_report.specs.Tables.{rules_by_tables}
use Rattle.tenth_report.specs.Told.{is_some_breach}
use Rattle.tenth_report.proofs.KeptParts.{found_count}
use Rattle.tenth_report.proofs.RecordCalls.{cut_short, no_read, record_stopped, told}
use Rattle.tenth_report.proofs.call.judge_record.Goals as goal

pub returns-in-Err-clause-judged : goal.returns-in-Err-clause-judged
returns-in-Err-clause-judged g c = λ file e header tables left.
    let name : name_of c.args.record.now ≡ c.args.form.now.file.now = c.requires.name in
    record_stopped (asked_in c.args.form.now) file c.args.tables.now.plan.names (rules_by_tables c.args.tables.now) c.in-Err.stop _ _ header tables
    (subst (λ t. IsRecordStop c.args.form.now.file.now t c.in-Err.stop) (ap (λ n. left_told c.args.record.now (file n)) name ∙ left)
    (c.in-Err.ensures.stopped file e))
    refl

pub write_found-requires : goal.write_found-requires
write_found-requires g c =
    let s = c.in-Ok.ensures.found in
    found_count (rules_by_tables c.args.tables.now) c.args.tolerance s.entries c.in-Ok.found s.are

pub returns-in-Ok-write_found-clause-judged : goal.returns-in-Ok-write_found-clause-judged
returns-in-Ok-write_found-clause-judged g c = λ file e header tables left.
    let s = c.in-Ok.ensures.found in
    let f = c.in-Ok.found in
    let asked = asked_in c.args.form.now in
    let names = c.args.tables.now.plan.names in
    let name : name_of c.args.record.now ≡ c.args.form.now.file.now = c.requires.name in
    let read : record_told names (file c.args.form.now.file.now) ≡ record { entries = s.entries; refused = None } =
    sym (ap (λ n. left_told c.args.record.now (file n)) name ∙ left) ∙ s.read file e in (
      found_text asked.csv names f,
      (
        told asked file names (rules_by_tables c.args.tables.now) c.args.tolerance s.entries f c.is_some.result c.requires.task header tables read s.are
            (c.is_some.ensures ∙ ap is_some_breach c.deref.ensures.value),
        c.in-Ok-write_found.ensures.written,
      ),
    )

pub returns-clause-judged : goal.returns-clause-judged
returns-clause-judged g c = λ file e header tables left.
    let s = c.in-Ok.ensures.found in
    let f = c.in-Ok.found in
    let asked = asked_in c.args.form.now in
    let names = c.args.tables.now.plan.names in
    let name : name_of c.args.record.now ≡ c.args.form.now.file.now = c.requires.name in
    let read : record_told names (file c.args.form.now.file.now) ≡ record { entries = s.entries; refused = None } =
    sym (ap (λ n. left_told c.args.record.now (file n)) name ∙ left) ∙ s.read file e in
    cut_short asked file (found_text asked.csv names f) (is_some_breach f.breaches.items) c.in-Err-write_found.stop _ _
    (told asked file names (rules_by_tables c.args.tables.now) c.args.tolerance s.entries f (is_some_breach f.breaches.items) c.requires.task header tables read s.are refl)
    c.in-Err-write_found.ensures.written

pub returns-clause-read : goal.returns-clause-read
returns-clause-read g c is = absurd (no_read Bool _ c.in-Err-write_found.stop _ _ c.in-Err-write_found.ensures.written is)
