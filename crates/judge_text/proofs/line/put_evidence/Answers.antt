use Rattle.sig_io.proofs.Drafts.{then}
use Rattle.judge_text.proofs.line.put_evidence.Goals as goal

pub returns-in-Conflict : goal.returns-in-Conflict
returns-in-Conflict g c =
    rw c.in-Conflict.is
    (then (then (then (then (then (then c.put-in-Conflict.ensures c.put_name.ensures) c.put-in-Conflict-2.ensures) c.put_second.ensures)
    c.put-in-Conflict-3.ensures) (rw (c.from.ensures, c.saturating_sub.ensures) at c.put_ticks.ensures)) c.put-in-Conflict-4.ensures)

pub returns-in-Hidden : goal.returns-in-Hidden
returns-in-Hidden g c = rw c.in-Hidden.is c.put_hidden.ensures
