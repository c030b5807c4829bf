use Rattle.sig_io.proofs.Drafts.{then}
use Rattle.refusal_text.proofs.line.put_not_yet.Goals as goal

pub returns : goal.returns
returns g c =
    then (then (then (then (then (rw c.change_name.ensures.name at c.put.ensures) c.put_lasts.ensures) c.put-2.ensures) c.put_number.ensures)
    c.put-3.ensures) (rw (c.from.ensures, c.from-2.ensures) at c.put_earliest.ensures)
