use Rattle.std.proofs.Common.{◌≡◌, ◌≤◌, take}
use Rattle.std.specs.List.{fold}
use Rattle.report_seen.specs.Letters.{empty_row, with_refusal}
use Rattle.report_seen.proofs.letters.put_refusals.Given as goal

abbrev pub invariant-loop-mark : goal.invariant-loop-mark
invariant-loop-mark g l = record {
  row : l.row ≡ fold (with_refusal l.block l.group) empty_row (take l.mark-index l.marks);
  end : l.row.end ≤ 60;
}
