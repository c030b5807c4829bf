use Rattle.sig_io.proofs.Drafts.{then}
use Rattle.sums_text.specs.Table.{group_rows}
use Rattle.sums_text.proofs.group_rows.put_group_rows.Goals as goal

pub returns : goal.returns
unfolding group_rows
returns g c =
    then (then (then (then c.put_greens_rows.ensures c.put_longest_rows.ensures) c.put_share_rows.ensures) c.put_reds_rows.ensures) c.put_cycles_rows.ensures
