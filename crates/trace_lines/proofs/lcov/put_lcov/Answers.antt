use Rattle.sig_io.proofs.Drafts.{then}
use Rattle.trace_lines.specs.Lcov.{lcov_text}
use Rattle.trace_lines.proofs.lcov.put_lcov.Goals as goal

pub returns : goal.returns
unfolding lcov_text
returns g c =
    then (then (then (then (then (then (then (then (then c.put.ensures c.put_long.ensures) c.put-2.ensures) c.put_all_branches.ensures)
    c.put_branches_found.ensures) c.put_branches_hit.ensures) c.put_all_lines.ensures) c.put_lines_found.ensures) c.put_lines_hit.ensures)
    c.put-3.ensures
