use Rattle.std.specs.Prelude.{codes}
use Rattle.sig_io.proofs.Drafts.{same_put}
use Rattle.trace_lines.specs.Table.{sum_text}
use Rattle.trace_lines.proofs.table.put_statements_reached.Goals as goal

pub returns : goal.returns
returns g c =
    same_put (λ j. sum_text (codes "statements reached: ") (c.begun_of.ensures j) (c.statements_of.ensures j)) c.put_sum.ensures
