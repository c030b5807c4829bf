use Rattle.sig_io.proofs.Drafts.{then}
use Rattle.report_seen.specs.LostText.{lost_table}
use Rattle.report_seen.proofs.lost_text.put_table.Goals as goal

pub returns : goal.returns
unfolding lost_table
returns g c = then c.put.ensures c.put_rows.ensures
