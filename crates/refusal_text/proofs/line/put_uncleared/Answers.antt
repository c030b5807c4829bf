use Rattle.sig_io.proofs.Drafts.{then}
use Rattle.refusal_text.proofs.line.put_uncleared.Goals as goal

pub returns : goal.returns
returns g c =
    let front = then (then (then (then (then (then c.put_name.ensures c.put.ensures) (rw c.from-4.ensures at c.put_in.ensures)) c.put-2.ensures)
    c.put_name-2.ensures) c.put-3.ensures) (rw c.from-5.ensures at c.put_in-2.ensures) in
    then (then (then front (rw (c.saturating_sub-missing.ensures, c.from.ensures, c.from-2.ensures, c.from-3.ensures) at c.put_needed.ensures))
    (rw c.from-6.ensures at c.put_earliest.ensures)) c.put_sake.ensures
