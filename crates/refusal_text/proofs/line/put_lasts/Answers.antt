use Rattle.sig_io.proofs.Drafts.{then}
use Rattle.refusal_text.proofs.line.put_lasts.Goals as goal

pub returns : goal.returns
returns g c =
    then (then (then (then c.put.ensures (rw c.from.ensures at c.put_in.ensures)) c.put-2.ensures) (rw c.saturating_sub.ensures at c.put_number.ensures))
    c.put-3.ensures
