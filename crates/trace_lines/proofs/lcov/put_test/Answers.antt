use Rattle.sig_io.proofs.Drafts.{then}
use Rattle.trace_lines.specs.Lcov.{test_text}
use Rattle.trace_lines.proofs.lcov.put_test.Goals as goal

pub returns : goal.returns
unfolding test_text
returns g c = then c.put_branch.ensures c.put_branch-2.ensures
