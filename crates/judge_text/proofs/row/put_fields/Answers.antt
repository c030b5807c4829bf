use Rattle.sig_io.proofs.Drafts.{then}
use Rattle.judge_text.proofs.row.put_fields.Goals as goal

pub returns-in-Hidden : goal.returns-in-Hidden
returns-in-Hidden g c =
    rw c.in-Hidden.is
    (then (then (then (then c.put_name-in-Hidden.ensures c.put-in-Hidden.ensures) c.put_between.ensures) c.put-in-Hidden-2.ensures)
    (rw c.from-in-Hidden.ensures at c.put_ticks-in-Hidden.ensures))
