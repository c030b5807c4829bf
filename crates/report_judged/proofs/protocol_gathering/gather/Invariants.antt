use Rattle.std.proofs.Common.{◌≡◌, ◌≤◌, ◌-◌, true, length}
use Rattle.pua_model.specs.Plan.{groups_in}
use Rattle.log_read.specs.Answers.{begin_of, is_live, name_of, pictures_given}
use Rattle.log_read.specs.declared.begin.Begin.TheVariants.{Anywhere}
use Rattle.log_protocol.specs.Page.{groups_of, seconds_of}
use Rattle.report_judged.proofs.ProtocolReading.{HasGathered}
use Rattle.report_judged.proofs.protocol_gathering.gather.Given as goal

abbrev pub invariant-lines : goal.invariant-lines
invariant-lines g l = record {
  gathered : HasGathered (g.F.Files.told l.fn.files) l.fn.plan.names l.fn.log l.part l.page;
  told : g.F.Files.told l.files ≡ g.F.Files.told l.fn.files;
  name : name_of l.part ≡ l.fn.log;
  begin : begin_of l.part ≡ Anywhere;
  live : is_live l.part ≡ true;
  groups : groups_of l.page ≡ groups_in l.fn.plan;
  seconds : seconds_of l.page ≡ pictures_given l.part;
  most : pictures_given l.part ≤ 604801;
  later : g.F.Files.faults l.fn.files ≤ g.F.Files.faults l.files;
}

abbrev pub decreases-lines : goal.decreases-lines
decreases-lines g l = 604802 - pictures_given l.part
