use Rattle.sig_io.proofs.Drafts.{then}
use Rattle.refusal_text.proofs.line.put_place.Goals as goal

pub returns-in-Inter : goal.returns-in-Inter
returns-in-Inter g c =
    rw c.in-Inter.is
    (then (then (then (then (then c.put-in-Inter.ensures (rw c.from-in-Inter.ensures at c.put_number-in-Inter.ensures)) c.put-in-Inter-2.ensures)
    (rw c.from-in-Inter-2.ensures at c.put_number-in-Inter-2.ensures)) c.put-in-Inter-3.ensures)
    (rw c.from-in-Inter-3.ensures at c.put_number-in-Inter-3.ensures))
