use Rattle.sig_io.proofs.Drafts.{then}
use Rattle.trace_lines.specs.Csv.{csv_text}
use Rattle.trace_lines.proofs.csv.put_csv.Goals as goal

pub returns : goal.returns
unfolding csv_text
returns g c = then c.put.ensures c.put_rows.ensures
