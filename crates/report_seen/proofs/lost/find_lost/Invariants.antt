use Rattle.std.proofs.Common.{◌≡◌, ◌≤◌, ◌-◌, true, false}
use Rattle.log_read.specs.declared.begin.Begin.TheVariants.{Anywhere}
use Rattle.log_read.specs.RecordAnswers.{begin_of, is_live, name_of, names_given, names_of, records_given}
use Rattle.report_seen.proofs.LostReading.{LostSoFar}
use Rattle.report_seen.proofs.lost.find_lost.Given as goal

abbrev pub invariant-records : goal.invariant-records
invariant-records g l = record {
  so_far : LostSoFar (g.F.Files.told l.fn.files) l.fn.records l.records l.fn.from l.fn.to l.asked l.starts.items;
  told : g.F.Files.told l.files ≡ g.F.Files.told l.fn.files;
  name : name_of l.records ≡ name_of l.fn.records;
  names : names_of l.records ≡ names_of l.fn.records;
  anywhere : begin_of l.records ≡ Anywhere;
  found : names_given l.records ≡ false;
  live : is_live l.records ≡ true;
  most : records_given l.records ≤ 604801;
  later : g.F.Files.faults l.fn.files ≤ g.F.Files.faults l.files;
}

abbrev pub decreases-records : goal.decreases-records
decreases-records g l = 604802 - records_given l.records
