use Rattle.sig_io.proofs.Drafts.{then}
use Rattle.refusal_text.proofs.row.put_numbers.Goals as goal

pub returns : goal.returns
returns g c = then (then (then (then c.put_span.ensures c.put_number.ensures) c.put.ensures) c.put_second.ensures) c.put-2.ensures
