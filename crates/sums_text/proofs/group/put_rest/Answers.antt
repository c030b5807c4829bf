use Rattle.sig_io.proofs.Drafts.{then}
use Rattle.sums_text.proofs.group.put_rest.Goals as goal

pub returns : goal.returns
returns g c =
    then (then (then (then c.put_greens.ensures c.put_longest.ensures) c.put_share.ensures) c.put_reds.ensures) c.put_cycles.ensures
