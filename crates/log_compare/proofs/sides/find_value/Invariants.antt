use Rattle.std.proofs.Common.{◌≡◌, drop, map}
use Rattle.log_compare.specs.Rows.{row_in}
use Rattle.log_compare.specs.Sides.{find_value}
use Rattle.log_compare.proofs.sides.find_value.Given as goal

abbrev pub invariant-loop-other : goal.invariant-loop-other
invariant-loop-other l = find_value (map row_in l.rows) (row_in l.row) ≡ find_value (map row_in (drop l.other-index l.rows)) (row_in l.row)
