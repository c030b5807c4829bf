use Rattle.sig_io.proofs.Drafts.{then}
use Rattle.refusal_text.proofs.line.put_least.Goals as goal

pub returns : goal.returns
returns g c =
    then (then (then (rw c.stand_name.ensures.name at c.put.ensures) c.put_lasts.ensures)
    (rw (c.saturating_sub.ensures, c.from.ensures, c.from-2.ensures, c.from-3.ensures) at c.put_needed.ensures))
    (rw (c.from.ensures, c.from-2.ensures) at c.put_earliest.ensures)
