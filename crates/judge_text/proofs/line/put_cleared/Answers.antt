use Rattle.sig_io.proofs.Drafts.{then}
use Rattle.judge_text.proofs.line.put_cleared.Goals as goal

pub returns : goal.returns
returns g c =
    let front = then (then (then (then (then (then c.put.ensures c.put_name.ensures) c.put-2.ensures) c.put_name-2.ensures) c.put-3.ensures)
    c.put_second.ensures) c.put-4.ensures in
    then (then (then (then (then (then (then front c.put_name-3.ensures) c.put_green.ensures) c.put-5.ensures)
    (rw (c.from.ensures, c.saturating_sub.ensures) at c.put_ticks.ensures)) c.put-6.ensures) (rw c.from-2.ensures at c.put_ticks-2.ensures)) c.put-7.ensures
