use Rattle.sig_io.proofs.Drafts.{then}
use Rattle.judge_text.specs.Sums.{sums_text}
use Rattle.judge_text.proofs.sums.put_sums.Goals as goal

pub returns : goal.returns
unfolding sums_text
returns g c =
    then (then (then (then c.put_alone.ensures c.put_alone-2.ensures) c.put_alone-3.ensures) c.put_pairs.ensures) c.put_pairs-2.ensures
