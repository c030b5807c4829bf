use Rattle.sig_io.proofs.Drafts.{then}
use Rattle.refusal_text.specs.Sums.{group_text}
use Rattle.refusal_text.proofs.sums.put_group.Goals as goal

pub returns : goal.returns
unfolding group_text
returns g c =
    then (then (then (then c.put_sum.ensures c.put_sum-2.ensures) c.put_sum-3.ensures) c.put_sum-4.ensures) c.put_sum-5.ensures
