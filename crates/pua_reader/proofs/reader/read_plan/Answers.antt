use Rattle.std.proofs.Common.{arith}
use Rattle.std.proofs.lemmas.Result.{err_from_is_err_and}
use Rattle.std.specs.Str.Lines.{lines}
use Rattle.pua_reader.specs.Accepted.{lines_in}
use Rattle.pua_reader.specs.Views.{draft_value}
use Rattle.pua_reader.proofs.Reading.{reads_begin, head_of, few_lines, line_refused, reads_more, nothing_left, accepted_by, refused_by}
use Rattle.pua_reader.proofs.reader.read_plan.Goals as goal

pub loop-rest-init : goal.loop-rest-init
loop-rest-init c = rw (c.without_mark-rest.ensures, c.empty-draft.ensures) (reads_begin c.args.bytes.now)

pub take_line-requires-clause-lines : goal.take_line-requires-clause-lines
take_line-requires-clause-lines c =
    let head = head_of (lines_in c.args.bytes.now) (lines c.loop-rest.rest.now) (draft_value c.loop-rest.draft) c.first_line.result.0.now
    (lines c.first_line.result.1.now) c.loop-rest.invariant c.first_line.ensures.lines in
    omega (arith, head.inside, few_lines c.args.bytes.now, c.requires)

pub returns-in_err-take_line-clause-refused : goal.returns-in_err-take_line-clause-refused
returns-in_err-take_line-clause-refused c =
    let told = line_refused c.args.bytes.now (lines c.loop-rest.rest.now) (draft_value c.loop-rest.draft) c.first_line.result.0.now
    (lines c.first_line.result.1.now) c.in_err-take_line.field-0.0
    c.loop-rest.invariant c.first_line.ensures.lines c.in_err-take_line.ensures in
    let p = err_from_is_err_and c.from_residual.result c.from_residual.ensures.1 in rw (p.1, p.2) told

pub loop-rest-preserved : goal.loop-rest-preserved
loop-rest-preserved c =
    rw c.in_ok-take_line.ensures.1
    (reads_more (lines_in c.args.bytes.now) (lines c.loop-rest.rest.now) (draft_value c.loop-rest.draft) c.first_line.result.0.now
    (lines c.first_line.result.1.now)
    c.loop-rest.invariant c.first_line.ensures.lines c.in_ok-take_line.ensures.0)

pub returns-clause-accepted : goal.returns-clause-accepted
returns-clause-accepted c =
    accepted_by c.finish.result c.args.bytes.now (lines c.loop-rest.rest.now) (draft_value c.loop-rest.draft) c.loop-rest.invariant
    (nothing_left c.loop-rest.rest.now c.loop-rest-test.ensures) c.finish.ensures

pub returns-clause-refused : goal.returns-clause-refused
returns-clause-refused c =
    refused_by c.finish.result c.args.bytes.now (lines c.loop-rest.rest.now) (draft_value c.loop-rest.draft) c.loop-rest.invariant
    (nothing_left c.loop-rest.rest.now c.loop-rest-test.ensures) c.finish.ensures
