use Rattle.std.proofs.Common.{◌≡◌, ◌≤◌, true, false, length}
use Rattle.log_read.specs.RecordAnswers.{begin_of, is_live, name_of, names_given, names_of, records_given}
use Rattle.log_read.specs.declared.begin.Begin.TheVariants.{AtOne}
use Rattle.report_seen.proofs.DiagramReading.{HasDrawn}
use Rattle.report_seen.proofs.gathering.gather.Given as goal

abbrev pub invariant-loop-line : goal.invariant-loop-line
invariant-loop-line g l = record {
  drawn : HasDrawn (g.F.Files.told l.fn.files) l.fn.log l.records l.window l.diagram;
  told : g.F.Files.told l.files ≡ g.F.Files.told l.fn.files;
  name : name_of l.records ≡ l.fn.log;
  one : begin_of l.records ≡ AtOne;
  found : names_given l.records ≡ false;
  live : is_live l.records ≡ true;
  few : length (names_of l.records) ≤ 64;
  count : records_given l.records ≡ l._line;
  most : records_given l.records ≤ 604801;
  later : g.F.Files.faults l.fn.files ≤ g.F.Files.faults l.files;
}
