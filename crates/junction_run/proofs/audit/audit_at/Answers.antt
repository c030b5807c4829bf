use Rattle.std.proofs.Common.{◌∙◌, Ok, Err, length, ap, subst, refl}
use Rattle.log_read.specs.Answers.{name_of}
use Rattle.junction_run.specs.Audited.{AreEnds}
use Rattle.junction_run.specs.Sites.{site_of_tables}
use Rattle.junction_run.proofs.AuditEnds.{judged_stop, judged_at, audit_is}
use Rattle.junction_run.proofs.audit.audit_at.Goals as goal

pub returns-in-Err-clause-audited : goal.returns-in-Err-clause-audited
returns-in-Err-clause-audited g c = λ file e. (refl, refl)

pub returns-in-Err-make-clause-audited : goal.returns-in-Err-make-clause-audited
returns-in-Err-make-clause-audited g c = λ file e. (refl, refl)

pub returns-in-Err-judge_log-clause-audited : goal.returns-in-Err-judge_log-clause-audited
returns-in-Err-judge_log-clause-audited g c = λ file e.
    let tables = c.args.tables in
    let log = c.args.log.now in
    judged_stop (Unit {0}) (site_of_tables tables) log (file log) c.in-Err-judge_log.stop _
    (judged_at tables.plan c.times.result.now tables.times c.intergreens.result.now tables.intergreens log (name_of c.in-Ok-make.lines) file
    (Err c.in-Err-judge_log.stop)
    (c.times.ensures ∙ ap (λ t. t.0) c.in-Ok.ensures.tables) (c.intergreens.ensures ∙ ap (λ t. t.1) c.in-Ok.ensures.tables) c.in-Ok-make.ensures.name
    (c.in-Err-judge_log.ensures.judged file e))

pub returns-in-Err-judge_log-clause-write : goal.returns-in-Err-judge_log-clause-write
returns-in-Err-judge_log-clause-write g c = λ is. absurd (c.in-Err-judge_log.ensures.no_write is)

pub returns-in-Ok-write_audit-clause-audited : goal.returns-in-Ok-write_audit-clause-audited
returns-in-Ok-write_audit-clause-audited g c = λ file e.
    let tables = c.args.tables in
    let log = c.args.log.now in
    let verdict = c.in-Ok-judge_log.verdict in
    let judged = judged_at tables.plan c.times.result.now tables.times c.intergreens.result.now tables.intergreens log (name_of c.in-Ok-make.lines)
    file (Ok verdict)
    (c.times.ensures ∙ ap (λ t. t.0) c.in-Ok.ensures.tables) (c.intergreens.ensures ∙ ap (λ t. t.1) c.in-Ok.ensures.tables) c.in-Ok-make.ensures.name
    (c.in-Ok-judge_log.ensures.judged file e) in
    let written = c.in-Ok-write_audit.ensures.written in
    let ends = subst (λ r. AreEnds tables.plan r (length tables.plan.interstages) written.0) c.in-Ok.ensures.rules written.1 in
    (judged.0, judged.1, _, audit_is (site_of_tables tables) judged.0 verdict written.0 judged.2 ends, written.2)

pub returns-in-Err-write_audit-clause-audited : goal.returns-in-Err-write_audit-clause-audited
returns-in-Err-write_audit-clause-audited g c = λ file e.
    let tables = c.args.tables in
    let log = c.args.log.now in
    let verdict = c.in-Ok-judge_log.verdict in
    let judged = judged_at tables.plan c.times.result.now tables.times c.intergreens.result.now tables.intergreens log (name_of c.in-Ok-make.lines)
    file (Ok verdict)
    (c.times.ensures ∙ ap (λ t. t.0) c.in-Ok.ensures.tables) (c.intergreens.ensures ∙ ap (λ t. t.1) c.in-Ok.ensures.tables) c.in-Ok-make.ensures.name
    (c.in-Ok-judge_log.ensures.judged file e) in
    let written = c.in-Err-write_audit.ensures.written in
    let ends = subst (λ r. AreEnds tables.plan r (length tables.plan.interstages) written.0) c.in-Ok.ensures.rules written.1 in
    (judged.0, judged.1, _, audit_is (site_of_tables tables) judged.0 verdict written.0 judged.2 ends, written.3.0, written.3.1)
