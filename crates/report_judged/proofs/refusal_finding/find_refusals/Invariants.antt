use Rattle.std.proofs.Common.{◌≡◌, ◌≤◌, ◌-◌, true}
use Rattle.pua_model.specs.Plan.{groups_in}
use Rattle.sig_tables.specs.SiteRules.{rules_of}
use Rattle.log_read.specs.RecordAnswers.{begin_of, is_live, name_of, names_given, names_of, records_given}
use Rattle.log_read.specs.declared.begin.Begin.TheVariants.{Anywhere}
use Rattle.refusal_text.specs.Kept.{groups_of, records_of}
use Rattle.report_judged.proofs.RefusalReading.{SoFar}
use Rattle.report_judged.proofs.refusal_finding.find_refusals.Given as goal

abbrev pub invariant-records : goal.invariant-records
invariant-records g l = record {
  so_far : SoFar (g.F.Files.told l.fn.files) l.fn.log l.part (rules_of l.fn.tables.times l.fn.tables.intergreens) l.fn.from l.fn.to l.refusals;
  told : g.F.Files.told l.files ≡ g.F.Files.told l.fn.files;
  name : name_of l.part ≡ l.fn.log;
  names : names_of l.part ≡ l.fn.tables.plan.names;
  begin : begin_of l.part ≡ Anywhere;
  given : names_given l.part ≡ true;
  live : is_live l.part ≡ true;
  groups : groups_of l.refusals ≡ groups_in l.fn.tables.plan;
  count : records_of l.refusals ≡ records_given l.part;
  most : records_given l.part ≤ 604801;
  later : g.F.Files.faults l.fn.files ≤ g.F.Files.faults l.files;
}

abbrev pub decreases-records : goal.decreases-records
decreases-records g l = 604802 - records_given l.part
