use Rattle.std.proofs.Common.{map, rules}
use Rattle.site_check.specs.Statements.{lines_of}
use Rattle.site_check.proofs.Windows.{end_none, end_some}
use Rattle.site_check.proofs.marks.Marks.end_of.Goals as goal

pub returns-in-Some-clause-end : goal.returns-in-Some-clause-end
returns-in-Some-clause-end c = λ text program are size.
    search (
      rules,
      end_some (lines_of program.checked) c.args.line c.in-Some.end c.passed.result c.args.all program.tokens
          (c.in-Some.ensures text program are) (c.passed.ensures (map (λ t. t.line) program.tokens) are.by_token) size,
    )

pub returns-in-None-clause-end : goal.returns-in-None-clause-end
returns-in-None-clause-end c = λ text program are size.
    end_none (lines_of program.checked) c.args.line c.args.all program.tokens (c.in-None.ensures text program are) size
