use Rattle.sig_io.proofs.Drafts.{then}
use Rattle.trace_lines.specs.Table.{sum_text}
use Rattle.trace_lines.proofs.table.put_sum.Goals as goal

pub returns : goal.returns
unfolding sum_text
returns g c =
    then (then (then (then (then c.put.ensures c.put_long_number.ensures) c.put-2.ensures) c.put_long_number-2.ensures) c.put_share.ensures) c.put-3.ensures
