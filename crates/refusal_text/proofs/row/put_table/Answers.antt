use Rattle.sig_io.proofs.Drafts.{then}
use Rattle.refusal_text.specs.Rows.{table_text}
use Rattle.refusal_text.proofs.row.put_table.Goals as goal

pub returns : goal.returns
unfolding table_text
returns g c = then c.put.ensures c.put_rows.ensures
