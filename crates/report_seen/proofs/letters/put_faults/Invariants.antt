use Rattle.std.proofs.Common.{◌≡◌, ◌≤◌, take}
use Rattle.std.specs.List.{fold}
use Rattle.report_seen.specs.Letters.{empty_row, with_fault}
use Rattle.report_seen.proofs.letters.put_faults.Given as goal

abbrev pub invariant-loop-mark : goal.invariant-loop-mark
invariant-loop-mark g l = record {
  row : l.row ≡ fold (with_fault l.block) empty_row (take l.mark-index l.marks);
  end : l.row.end ≤ 60;
}
