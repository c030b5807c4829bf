use Rattle.sig_io.proofs.Drafts.{then}
use Rattle.trace_lines.specs.Table.{sums_text}
use Rattle.trace_lines.proofs.table.put_sums.Goals as goal

pub returns : goal.returns
unfolding sums_text
returns g c =
    then (then c.put_lines_reached.ensures c.put_statements_reached.ensures) c.put_tests_both.ensures
