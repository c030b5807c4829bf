use Rattle.std.proofs.Common.{◌≡◌, ◌≤◌, take}
use Rattle.std.specs.List.{fold}
use Rattle.report_seen.specs.Letters.{empty_row, with_cover, with_front}
use Rattle.report_seen.proofs.letters.put_detector.Given as goal

abbrev pub invariant-loop-mark : goal.invariant-loop-mark
invariant-loop-mark g l = record {
  row : l.row ≡ fold (with_front l.block l.number) (fold (with_cover l.block) empty_row l.spans) (take l.mark-index l.marks);
  end : l.row.end ≤ 60;
}
