use Rattle.sig_io.proofs.Drafts.{then}
use Rattle.sums_text.proofs.rows.put_gap.Goals as goal

pub returns : goal.returns
returns g c = rw (← c.run_from.ensures, ← c.less_one.ensures) (then c.put_pair.ensures c.put_pair-2.ensures)
