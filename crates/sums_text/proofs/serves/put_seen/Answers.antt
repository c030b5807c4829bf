use Rattle.sig_io.proofs.Drafts.{then}
use Rattle.sums_text.specs.Words.{seen_text}
use Rattle.sums_text.proofs.serves.put_seen.Goals as goal

pub returns : goal.returns
unfolding seen_text
returns g c =
    then (then (then (then (then c.put_long.ensures c.put_long-2.ensures) c.put_pair.ensures) c.put_per_green.ensures) c.put_pair-2.ensures)
    c.put_lengths.ensures
