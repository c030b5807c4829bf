use Rattle.std.proofs.Common.{◌≡◌, ◌≤◌, ◌++◌, true, List, Some}
use Rattle.sig_io.specs.Outside.{Contents}
use Rattle.tenth_records.specs.declared.entry.Entry.{Entry}
use Rattle.tenth_records.specs.Answers.{first_of, groups_of, is_live, left_told, name_of, next_of}
use Rattle.log_protocol.specs.Page.{groups_of as groups_on}
use Rattle.tenth_report.specs.Gaps.{HasGaps}
use Rattle.tenth_report.specs.Pages.{HasTaken, IsOf}
use Rattle.tenth_report.proofs.Entries.{left_in}
use Rattle.tenth_report.proofs.Begun.{IsBegun}
use Rattle.tenth_report.proofs.Paging.{FitsAt}
use Rattle.tenth_report.proofs.gathering.gather_within.Given as goal

abbrev pub invariant-entries : goal.invariant-entries
invariant-entries g l = record {
  past : List Entry;
  taken : (rest : List Entry) → HasTaken l.gathering.pages (past ++ rest) rest;
  gaps : (rest : List Entry) → HasGaps l.gathering.gaps (past ++ rest) rest l.gathering.pages.at;
  begun : IsBegun l.gathering (first_of l.record) past;
  read : (file : Contents) → g.F.Files.told l.fn.files ≡ Some file →
      (left_told l.fn.record (file (name_of l.fn.record))).entries ≡ past ++ (left_told l.record (file (name_of l.fn.record))).entries;
  refused : (file : Contents) → g.F.Files.told l.fn.files ≡ Some file →
      (left_told l.fn.record (file (name_of l.fn.record))).refused ≡ (left_told l.record (file (name_of l.fn.record))).refused;
  of : IsOf l.gathering.pages (groups_of l.fn.record);
  page : groups_on l.gathering.pages.page ≡ groups_of l.fn.record;
  fits : FitsAt l.gathering.pages (first_of l.record) (next_of l.record);
  groups : groups_of l.record ≡ groups_of l.fn.record;
  told : g.F.Files.told l.files ≡ g.F.Files.told l.fn.files;
  name : name_of l.record ≡ name_of l.fn.record;
  live : is_live l.record ≡ true;
  later : g.F.Files.faults l.fn.files ≤ g.F.Files.faults l.files;
}

abbrev pub decreases-entries : goal.decreases-entries
decreases-entries g l = left_in (first_of l.record) (next_of l.record)
