use Rattle.std.proofs.Common.{◌≡◌, ◌≤◌, ◌-◌, true}
use Rattle.pua_model.specs.Plan.{groups_in}
use Rattle.sig_tables.specs.SiteRules.{rules_of}
use Rattle.log_judge.specs.Stands.{groups_of, seconds_of, terms_of}
use Rattle.log_read.specs.Answers.{begin_of, is_live, name_of, pictures_given}
use Rattle.log_read.specs.declared.begin.Begin.TheVariants.{Anywhere}
use Rattle.report_judged.proofs.BreachReading.{SoFar}
use Rattle.report_judged.proofs.breach_finding.find_within.Given as goal

abbrev pub invariant-pictures : goal.invariant-pictures
invariant-pictures g l = record {
  so_far : SoFar l.judge l.part l.found.items (g.F.Files.told l.fn.files) (name_of l.fn.part) l.tables.plan.names
      (rules_of l.tables.times l.tables.intergreens) (terms_of l.fn.judge);
  told : g.F.Files.told l.files ≡ g.F.Files.told l.fn.files;
  name : name_of l.part ≡ name_of l.fn.part;
  begin : begin_of l.part ≡ Anywhere;
  live : is_live l.part ≡ true;
  groups : groups_of l.judge ≡ groups_in l.tables.plan;
  terms : terms_of l.judge ≡ terms_of l.fn.judge;
  count : seconds_of l.judge ≡ pictures_given l.part;
  most : pictures_given l.part ≤ 604801;
  later : g.F.Files.faults l.fn.files ≤ g.F.Files.faults l.files;
}

abbrev pub decreases-pictures : goal.decreases-pictures
decreases-pictures g l = 604802 - pictures_given l.part
