use Rattle.sig_io.proofs.Drafts.{then}
use Rattle.trace_lines.specs.Csv.{row_text}
use Rattle.trace_lines.proofs.csv.put_row.Goals as goal

pub returns : goal.returns
unfolding row_text
returns g c =
    then (then (then (then (then (then (then (then (then c.put_number.ensures c.put.ensures) c.put_long_number.ensures) c.put-2.ensures)
    c.put_times.ensures) c.put-3.ensures) c.put_yes.ensures) c.put-4.ensures) c.put_no.ensures) c.put-5.ensures
