use Rattle.sig_io.proofs.Drafts.{then}
use Rattle.sums_text.specs.Table.{sums_rows}
use Rattle.sums_text.proofs.table.put_sums_rows.Goals as goal

pub returns : goal.returns
unfolding sums_rows
returns g c =
    then (then (then (then (then c.put_shown_rows.ensures c.put_places_rows.ensures) c.put_refused_rows.ensures) c.put_faults_rows.ensures)
    c.put_detectors_rows.ensures)
    c.put_serves_rows.ensures
