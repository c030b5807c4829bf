use Rattle.sig_io.proofs.Drafts.{then}
use Rattle.sums_text.specs.Table.{table_text}
use Rattle.sums_text.proofs.table.put_table.Goals as goal

pub returns : goal.returns
unfolding table_text
returns g c = then c.put.ensures c.put_sums_rows.ensures
