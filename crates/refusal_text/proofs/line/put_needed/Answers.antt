use Rattle.sig_io.proofs.Drafts.{then}
use Rattle.refusal_text.proofs.line.put_needed.Goals as goal

pub returns : goal.returns
returns g c =
    then (then (then (then (then (then (then c.put.ensures c.put_number.ensures) c.put-2.ensures)
    (rw (c.are_text.ensures.verb, c.from.ensures) at c.put-3.ensures)) c.put-4.ensures) c.put_long_number.ensures)
    (rw c.are_text-2.ensures.verb at c.put-5.ensures)) c.put-6.ensures
