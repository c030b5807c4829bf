use Rattle.std.proofs.Common.{◌≡◌, ◌≤◌, take}
use Rattle.std.specs.List.{fold}
use Rattle.report_seen.specs.Letters.{empty_row, with_cover}
use Rattle.report_seen.proofs.covers.with_covers.Given as goal

abbrev pub invariant-loop-span : goal.invariant-loop-span
invariant-loop-span l = record {
  row : l.row ≡ fold (with_cover l.block) empty_row (take l.span-index l.spans);
  end : l.row.end ≤ 60;
}
