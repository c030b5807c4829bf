use Rattle.std.proofs.Common.{◌≡◌, ◌≤◌, ◌++◌, true, List, length, Some}
use Rattle.sig_io.specs.Outside.{Contents}
use Rattle.tenth_records.specs.declared.entry.Entry.{Entry}
use Rattle.tenth_records.specs.Answers.{first_of, groups_of, is_live, left_told, name_of, next_of}
use Rattle.tenth_report.specs.Search.{HasTaken, IsFor, rules_in}
use Rattle.tenth_report.proofs.Entries.{FitsAt, left_in}
use Rattle.tenth_report.proofs.finding.find_within.Given as goal

abbrev pub invariant-entries : goal.invariant-entries
invariant-entries g l = record {
  past : List Entry;
  taken : (rest : List Entry) → HasTaken (rules_in l.limits) l.search (past ++ rest) rest;
  read : (file : Contents) → g.F.Files.told l.fn.files ≡ Some file →
      (left_told l.fn.record (file (name_of l.fn.record))).entries ≡ past ++ (left_told l.record (file (name_of l.fn.record))).entries;
  refused : (file : Contents) → g.F.Files.told l.fn.files ≡ Some file →
      (left_told l.fn.record (file (name_of l.fn.record))).refused ≡ (left_told l.record (file (name_of l.fn.record))).refused;
  tables : IsFor l.search l.limits;
  tolerance : l.search.tolerance ≡ l.fn.search.tolerance;
  fits : FitsAt l.search (first_of l.record) (next_of l.record);
  groups : groups_of l.record ≡ length l.limits.times;
  told : g.F.Files.told l.files ≡ g.F.Files.told l.fn.files;
  name : name_of l.record ≡ name_of l.fn.record;
  live : is_live l.record ≡ true;
  later : g.F.Files.faults l.fn.files ≤ g.F.Files.faults l.files;
}

abbrev pub decreases-entries : goal.decreases-entries
decreases-entries g l = left_in (first_of l.record) (next_of l.record)
