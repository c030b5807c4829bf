use Rattle.sig_io.proofs.Drafts.{then}
use Rattle.trace_lines.specs.Table.{beside_text}
use Rattle.trace_lines.proofs.table.put_beside.Goals as goal

pub returns : goal.returns
unfolding beside_text
returns g c =
    then (then (then (then c.put_cells.ensures c.put_right_number.ensures) c.put.ensures) c.put_long.ensures) c.put-2.ensures
