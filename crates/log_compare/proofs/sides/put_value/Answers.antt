use Rattle.sig_io.proofs.Drafts.{then}
use Rattle.log_compare.proofs.sides.put_value.Goals as goal

pub returns : goal.returns
returns g c =
    then (then (then (then (then c.put.ensures c.put_long.ensures) c.put-2.ensures) c.put_long-2.ensures) c.put-3.ensures) c.put_long-3.ensures
