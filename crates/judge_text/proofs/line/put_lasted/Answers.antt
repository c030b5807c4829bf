use Rattle.sig_io.proofs.Drafts.{then}
use Rattle.judge_text.proofs.line.put_lasted.Goals as goal

pub returns : goal.returns
returns g c =
    then (then (then (then (then (then (then (then c.put.ensures
    (rw c.aspect_name.ensures.name at c.put-2.ensures)) c.put-3.ensures) c.put_second.ensures) c.put-4.ensures)
    (rw (c.from.ensures, c.saturating_sub.ensures) at c.put_ticks.ensures)) (rw c.time_name.ensures.name at c.put-5.ensures)) (rw c.from-2.ensures at c.put_ticks-2.ensures)) c.put-6.ensures
