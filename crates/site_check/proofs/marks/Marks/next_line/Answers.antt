use Rattle.std.proofs.Common.{rules}
use Rattle.site_check.specs.Statements.{lines_of}
use Rattle.site_check.proofs.Spotted.{next_some_in}
use Rattle.site_check.proofs.marks.Marks.next_line.Goals as goal

pub returns-then-behind-len : goal.returns-then-behind-len
returns-then-behind-len c = λ text program are.
    next_some_in text program c.args.self.now c.args.line c.passed-behind.result c.index.result.now are
    (c.passed-behind.ensures (lines_of program.checked) are.by_line) (search rules) (search rules)
