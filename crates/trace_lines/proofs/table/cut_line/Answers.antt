use Rattle.trace_lines.proofs.Texts.{cut_lines, uncut_line}
use Rattle.trace_lines.proofs.table.cut_line.Goals as goal

pub returns-in-Some-clause-lines : goal.returns-in-Some-clause-lines
returns-in-Some-clause-lines c = (cut_lines c.args.text.now (c.in-Some.cut.0.now, c.in-Some.cut.1.now) c.in-Some.ensures).0

pub returns-in-Some-clause-shorter : goal.returns-in-Some-clause-shorter
returns-in-Some-clause-shorter c = (cut_lines c.args.text.now (c.in-Some.cut.0.now, c.in-Some.cut.1.now) c.in-Some.ensures).1

pub returns-in-None-clause-lines : goal.returns-in-None-clause-lines
returns-in-None-clause-lines c = uncut_line c.args.text.now c.in-None.ensures c.requires
