use Rattle.sig_io.proofs.Drafts.{then}
use Rattle.sums_text.proofs.cells.put_tenths_row.Goals as goal

pub returns : goal.returns
returns g c = then (then (then c.put_lead.ensures c.put.ensures) c.put_tenths.ensures) c.put-2.ensures
