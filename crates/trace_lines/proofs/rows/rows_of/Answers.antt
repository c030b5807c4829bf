use Rattle.std.proofs.Common.{length}
use Rattle.trace_lines.proofs.Within.{always_ok, rows_within}
use Rattle.trace_lines.proofs.rows.rows_of.Goals as goal

pub returns-clause-within : goal.returns-clause-within
returns-clause-within c =
    always_ok c.rows_in.result
    (rows_within (length c.args.instrs.now) c.args.instrs.now c.in_ok-statements.statements.items c.in_ok-tests.tests.items c.in_ok-statements.ensures.marks
    c.in_ok-tests.ensures.marks c.in_ok-statements.ensures.within c.in_ok-tests.ensures.within)
