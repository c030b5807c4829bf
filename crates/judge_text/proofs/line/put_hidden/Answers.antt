use Rattle.sig_io.proofs.Drafts.{then}
use Rattle.judge_text.proofs.line.put_hidden.Goals as goal

pub returns : goal.returns
returns g c =
    let front = then (then (then (then (then (then (then (then c.put.ensures c.put_name.ensures) c.put-2.ensures) c.put_name-2.ensures) c.put-3.ensures)
    (rw c.from.ensures at c.put_ticks.ensures)) c.put-4.ensures) (rw c.from-2.ensures at c.put_ticks-2.ensures)) c.put-5.ensures in
    then (then (then (then (then front c.put_name-3.ensures) c.put_behind.ensures) c.put-6.ensures) (rw c.from-3.ensures at c.put_ticks-3.ensures)) c.put-7.ensures
