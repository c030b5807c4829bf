use Rattle.sig_io.proofs.Drafts.{then}
use Rattle.junction_live.proofs.lines.put_watch.Goals as goal

pub returns : goal.returns
returns g c =
    then (then (then (then (then (then c.put.ensures c.put_number.ensures) c.put-2.ensures) c.put_number-2.ensures) c.put-3.ensures)
    c.put_letters.ensures) c.put-4.ensures
