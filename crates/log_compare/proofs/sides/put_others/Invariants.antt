use Rattle.std.proofs.Common.{◌≡◌, ◌++◌, map, take}
use Rattle.std.specs.List.{flat_map}
use Rattle.log_compare.specs.Rows.{row_in}
use Rattle.log_compare.specs.Sides.{lone_sides, side_in}
use Rattle.log_compare.proofs.sides.put_others.Given as goal

abbrev pub invariant-loop-row : goal.invariant-loop-row
invariant-loop-row l = map side_in l.sides.items
    ≡ map side_in l.fn.sides.items ++ flat_map (lone_sides (map row_in l.ones)) (map row_in (take l.row-index l.others))
