use Rattle.sig_io.proofs.Drafts.{then}
use Rattle.sums_text.specs.Parts.{parts_table}
use Rattle.sums_text.proofs.parts.put_parts_table.Goals as goal

pub returns : goal.returns
unfolding parts_table
returns g c = then c.put.ensures c.put_parts_rows.ensures
