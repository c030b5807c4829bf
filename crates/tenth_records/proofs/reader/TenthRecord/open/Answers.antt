use Rattle.std.proofs.Common.{◌∙◌}
use Rattle.std.specs.Str.Lines.{lines}
use Rattle.std.proofs.lemmas.Result.{err_from_is_err_and}
use Rattle.tenth_records.specs.Answers.{left_told}
use Rattle.tenth_records.specs.Unread.{line_of, name_in, unread_bytes}
use Rattle.tenth_records.proofs.Reading.{header_is, not_named, not_taken, told_first}
use Rattle.tenth_records.proofs.reader.TenthRecord.open.Goals as goal

pub returns-in_err-take_header-clause-opened : goal.returns-in_err-take_header-clause-opened
returns-in_err-take_header-clause-opened g c file told =
    let p = err_from_is_err_and c.from_residual.result c.from_residual.ensures.1 in
    rw (p.1, p.2) (not_taken (Unit {0}) file (name_in c.in-Ok.lines) c.args.name.now c.take_header.new.lines c.in_err-take_header.field-0.0 c.in-Ok.ensures.name
    (c.in_err-take_header.ensures.first file told))

pub returns-in_err-plan-clause-opened : goal.returns-in_err-plan-clause-opened
returns-in_err-plan-clause-opened g c file told =
    let p = err_from_is_err_and c.from_residual-in_err-plan.result c.from_residual-in_err-plan.ensures.1 in
    let first = rw c.in-Ok.ensures.name at (c.in_ok-take_header.ensures.first file told) in
    let wrong = rw c.line.ensures at c.in_err-plan.ensures.refused in
    rw (p.1, p.2) (not_named (file c.args.name.now) (line_of c.take_header.new.lines) (lines (unread_bytes c.take_header.new.lines (file c.args.name.now))) c.in_err-plan.field-0.0 first.0 first.1 wrong)

pub returns-clause-opened : goal.returns-clause-opened
unfolding left_told
returns-clause-opened g c file told =
    let bytes = file c.args.name.now in
    let new = c.take_header.new.lines in
    let first = rw c.in-Ok.ensures.name at (c.in_ok-take_header.ensures.first file told) in
    let named = rw c.line.ensures at c.in_ok-plan.ensures.plan in (
      header_is (lines bytes) (line_of new) (lines (unread_bytes new bytes)) first.0 first.1 ∙ named,
      told_first c.in_ok-plan.plan.names c.groups.result bytes (line_of new) (unread_bytes new bytes) c.groups.ensures.count first.0,
    )
