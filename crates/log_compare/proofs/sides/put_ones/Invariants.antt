use Rattle.std.proofs.Common.{◌≡◌, ◌++◌, map, take}
use Rattle.log_compare.specs.Rows.{row_in}
use Rattle.log_compare.specs.Sides.{one_side, side_in}
use Rattle.log_compare.proofs.sides.put_ones.Given as goal

abbrev pub invariant-loop-row : goal.invariant-loop-row
invariant-loop-row l = map side_in l.sides.items
    ≡ map side_in l.fn.sides.items ++ map (one_side (map row_in l.others)) (map row_in (take l.row-index l.ones))
