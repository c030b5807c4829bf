use Rattle.std.proofs.Common.{◌≡◌, length, map, fold}
use Rattle.sig_types.specs.Text.{fed_lines}
use Rattle.log_compare.specs.Rows.{row_in, rows_of, with_row}
use Rattle.log_compare.proofs.rows.rows_of.Given as goal

abbrev pub invariant-loop-rest : goal.invariant-loop-rest
invariant-loop-rest l = rows_of l.table ≡ fold with_row (map row_in l.rows.items) (fed_lines l.rest)

abbrev pub decreases-loop-rest : goal.decreases-loop-rest
decreases-loop-rest l = length l.rest
