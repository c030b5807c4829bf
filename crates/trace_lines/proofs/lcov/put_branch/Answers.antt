use Rattle.sig_io.proofs.Drafts.{then}
use Rattle.trace_lines.proofs.lcov.put_branch.Goals as goal

pub returns : goal.returns
returns g c =
    then (then (then (then (then (then (then (then c.put.ensures c.put_number.ensures) c.put-2.ensures) c.put_long_number.ensures) c.put-3.ensures)
    c.put_number-2.ensures) c.put-4.ensures) c.put_taken.ensures) c.put-5.ensures
