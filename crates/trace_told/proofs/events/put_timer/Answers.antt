use Rattle.sig_io.proofs.Drafts.{same_put, then}
use Rattle.trace_told.proofs.events.put_timer.Goals as goal

pub returns : goal.returns
returns g c =
    then c.put.ensures (then (same_put c.timer_word.ensures.word c.put-2.ensures) (then c.put-3.ensures (then c.put_slot.ensures c.put-4.ensures)))
