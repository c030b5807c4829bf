use Rattle.std.proofs.Common.{◌≡◌, ◌≤◌, ◌-◌, true}
use Rattle.pua_model.specs.Plan.{groups_in}
use Rattle.sig_tables.specs.SiteRules.{rules_of}
use Rattle.log_read.specs.Answers.{begin_of, is_live, name_of, pictures_given}
use Rattle.log_read.specs.declared.begin.Begin.TheVariants.{AtOne}
use Rattle.sig_audit.specs.Judged.{groups_of, seconds_taken}
use Rattle.junction_run.proofs.AuditEnds.{SoFar}
use Rattle.junction_run.proofs.audit.judge_log.Given as goal

abbrev pub invariant-loop-auditor : goal.invariant-loop-auditor
invariant-loop-auditor g l =
    SoFar l.auditor l.lines (g.F.Files.told l.fn.files) (name_of l.fn.lines) l.plan (rules_of l.times l.intergreens)
    × (g.F.Files.told l.files ≡ g.F.Files.told l.fn.files)
    × (name_of l.lines ≡ name_of l.fn.lines)
    × (is_live l.lines ≡ true)
    × (groups_of l.auditor ≡ groups_in l.plan)
    × (seconds_taken l.auditor ≡ pictures_given l.lines)
    × (pictures_given l.lines ≤ 604801)
    × (g.F.Files.faults l.fn.files ≤ g.F.Files.faults l.files)
    × (begin_of l.lines ≡ AtOne)

abbrev pub decreases-loop-auditor : goal.decreases-loop-auditor
decreases-loop-auditor g l = 604802 - pictures_given l.lines
