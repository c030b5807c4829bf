use Rattle.sig_io.proofs.Drafts.{then}
use Rattle.trace_told.specs.EndRows.{csv_text}
use Rattle.trace_told.proofs.end_rows.put_csv.Goals as goal

pub returns : goal.returns
unfolding csv_text
returns g c =
    then c.put_number.ensures (then c.put.ensures (then c.put_stage.ensures (then c.put-2.ensures (then c.put_number-2.ensures (then c.put-3.ensures
    (then c.put_stage-2.ensures (then c.put-4.ensures (then c.put_number-3.ensures c.put-5.ensures))))))))
