use Rattle.std.proofs.Common.{◌≡◌, ◌∙◌, ap, length, map, min, rules}
use Rattle.site_check.specs.Statements.{lines_of}
use Rattle.site_check.proofs.Windows.{range_of}
use Rattle.site_check.proofs.marks.Marks.statement_range.Goals as goal

pub returns-clause-range : goal.returns-clause-range
returns-clause-range c = λ text program are same.
    let least : c.min-from.result ≡ min c.passed-begun.result c.end_of-end.result = search (rules, c.min-from.ensures) in
    range_of (lines_of program.checked) c.args.line c.min-from.result c.end_of-end.result program.tokens
    (c.end_of-end.ensures.end text program are (ap length same))
    (least ∙ ap (λ n. min n c.end_of-end.result) (c.passed-begun.ensures (map (λ t. t.line) program.tokens) are.by_token))
