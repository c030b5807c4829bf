use Rattle.std.proofs.Common.{◌≡◌, ◌≤◌, ◌-◌, true, false}
use Rattle.log_read.specs.declared.begin.Begin.TheVariants.{AtOne}
use Rattle.log_read.specs.RecordAnswers.{begin_of, is_live, name_of, names_given, names_of, records_given}
use Rattle.log_sums.specs.Serves.{serves_of}
use Rattle.report_seen.proofs.SumsReading.{SoFar}
use Rattle.report_seen.proofs.summing.add_up.Given as goal

abbrev pub invariant-records : goal.invariant-records
invariant-records g l = record {
  so_far : SoFar (g.F.Files.told l.fn.files) l.fn.records l.records l.fn.from l.fn.to l.sums;
  serves : serves_of l.sums.serves.items ≡ l.fn.serves;
  told : g.F.Files.told l.files ≡ g.F.Files.told l.fn.files;
  name : name_of l.records ≡ name_of l.fn.records;
  names : names_of l.records ≡ names_of l.fn.records;
  one : begin_of l.records ≡ AtOne;
  found : names_given l.records ≡ false;
  live : is_live l.records ≡ true;
  most : records_given l.records ≤ 604801;
  later : g.F.Files.faults l.fn.files ≤ g.F.Files.faults l.files;
}

abbrev pub decreases-records : goal.decreases-records
decreases-records g l = 604802 - records_given l.records
