use Rattle.std.proofs.Common.{◌≡◌, ◌∙◌, Bool, false, None, refl, sym, ap, subst}
use Rattle.tenth_records.specs.Answers.{left_told, name_of, record_told}
use Rattle.tenth_report.specs.Form.{asked_in}
use Rattle.tenth_report.specs.Kept.{gathered_text}
use Rattle.tenth_report.specs.Stops.{IsRecordStop}
use Rattle.tenth_report.specs.Tables.{rules_by_tables}
use Rattle.tenth_report.proofs.RecordCalls.{cut_short, no_read, record_stopped, told_gathered}
use Rattle.tenth_report.proofs.call.tell_record.Goals as goal

pub returns-in-Err-clause-told : goal.returns-in-Err-clause-told
returns-in-Err-clause-told g c = λ file e header tables left.
    let name : name_of c.args.record.now ≡ c.args.form.now.file.now = c.requires.name in
    record_stopped (asked_in c.args.form.now) file c.args.tables.now.plan.names (rules_by_tables c.args.tables.now) c.in-Err.stop _ _ header tables
    (subst (λ t. IsRecordStop c.args.form.now.file.now t c.in-Err.stop) (ap (λ n. left_told c.args.record.now (file n)) name ∙ left)
    (c.in-Err.ensures.stopped file e))
    refl

pub returns-in-Ok-write_gathered-clause-told : goal.returns-in-Ok-write_gathered-clause-told
returns-in-Ok-write_gathered-clause-told g c = λ file e header tables left.
    let s = c.in-Ok.ensures.gathered in
    let asked = asked_in c.args.form.now in
    let names = c.args.tables.now.plan.names in
    let name : name_of c.args.record.now ≡ c.args.form.now.file.now = c.requires.name in
    let read : record_told names (file c.args.form.now.file.now) ≡ record { entries = s.entries; refused = None } =
    sym (ap (λ n. left_told c.args.record.now (file n)) name ∙ left) ∙ s.read file e in (
      gathered_text asked.csv names (rules_by_tables c.args.tables.now) c.in-Ok.gathered,
      (
        told_gathered asked file names (rules_by_tables c.args.tables.now) s.entries c.in-Ok.gathered c.requires.task header tables read
            (rw c.groups.ensures.count at s.are),
        c.in-Ok-write_gathered.ensures.written,
      ),
    )

pub returns-clause-told : goal.returns-clause-told
returns-clause-told g c = λ file e header tables left.
    let s = c.in-Ok.ensures.gathered in
    let asked = asked_in c.args.form.now in
    let names = c.args.tables.now.plan.names in
    let name : name_of c.args.record.now ≡ c.args.form.now.file.now = c.requires.name in
    let read : record_told names (file c.args.form.now.file.now) ≡ record { entries = s.entries; refused = None } =
    sym (ap (λ n. left_told c.args.record.now (file n)) name ∙ left) ∙ s.read file e in
    cut_short asked file (gathered_text asked.csv names (rules_by_tables c.args.tables.now) c.in-Ok.gathered) false c.in-Err-write_gathered.stop _ _
    (told_gathered asked file names (rules_by_tables c.args.tables.now) s.entries c.in-Ok.gathered c.requires.task header tables read
    (rw c.groups.ensures.count at s.are))
    c.in-Err-write_gathered.ensures.written

pub returns-clause-read : goal.returns-clause-read
returns-clause-read g c is = absurd (no_read Bool _ c.in-Err-write_gathered.stop _ _ c.in-Err-write_gathered.ensures.written is)
