use Rattle.log_compare.proofs.Cuts.{last_line, next_line, shorter}
use Rattle.log_compare.proofs.lines.first_line.Goals as goal

pub returns-in-Some-clause-line : goal.returns-in-Some-clause-line
returns-in-Some-clause-line c = next_line c.args.text.now c.in-Some.line.now c.in-Some.rest.now c.in-Some.ensures

pub returns-in-Some-clause-shorter : goal.returns-in-Some-clause-shorter
returns-in-Some-clause-shorter c = shorter 10 c.args.text.now c.in-Some.line.now c.in-Some.rest.now c.in-Some.ensures

pub returns-in-None-clause-line : goal.returns-in-None-clause-line
returns-in-None-clause-line c = last_line c.args.text.now c.in-None.ensures c.requires
