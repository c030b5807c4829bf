use Rattle.sig_io.proofs.Drafts.{then}
use Rattle.sums_text.proofs.cells.put_row.Goals as goal

pub returns : goal.returns
returns g c = then (then (then c.put_lead.ensures c.put.ensures) c.put_long_number.ensures) c.put-2.ensures
