use Rattle.std.proofs.Common.{arith, ap, ◌∙◌}
use Rattle.det_stream.specs.Stream.{ahead_reason}
use Rattle.det_stream.proofs.TotalLemmas.{none_ahead, silent_within}
use Rattle.det_stream.proofs.StreamLemmas.{judge_many, judge_wrong, judge_right}
use Rattle.det_stream.proofs.line.read_line.Goals as goal

pub returns-then-second-eq-MOST_LINES-clause-judged : goal.returns-then-second-eq-MOST_LINES-clause-judged
returns-then-second-eq-MOST_LINES-clause-judged c before size short are =
    judge_many before c.args.line.now (omega (arith, size, c.if-second-eq-MOST_LINES.true))

pub returns-in-Err-clause-judged : goal.returns-in-Err-clause-judged
returns-in-Err-clause-judged c before size short are =
    judge_wrong before c.args.line.now c.in-Err.why (omega (arith, size, c.requires.at_most, c.if-second-eq-MOST_LINES.false)) short c.in-Err.ensures.judged

pub returns-in-Ok-true-clause-judged : goal.returns-in-Ok-true-clause-judged
returns-in-Ok-true-clause-judged c before size short are =
    judge_right before c.args.line.now c.args.totals.now c.read_entries.new.totals
    (omega (arith, size, c.requires.at_most, c.if-second-eq-MOST_LINES.false)) short c.in-Ok-true.ensures.judged are
    (rw c.in-Ok-true.ensures.frame at c.in-Ok-true.ensures.sum)
    ∙ ap ahead_reason (none_ahead c.read_entries.new.totals (c.in-Ok-true.ensures.within_fronts c.in-Ok-true.field-0-test))

pub returns-in-Ok-false-clause-judged : goal.returns-in-Ok-false-clause-judged
returns-in-Ok-false-clause-judged c before size short are =
    rw (judge_right before c.args.line.now c.args.totals.now c.read_entries.new.totals
    (omega (arith, size, c.requires.at_most, c.if-second-eq-MOST_LINES.false)) short c.in-Ok-false.ensures.judged are
    (rw c.in-Ok-false.ensures.frame at c.in-Ok-false.ensures.sum))
    c.judge_totals.ensures.judged

pub judge_totals-requires : goal.judge_totals-requires
judge_totals-requires c = silent_within c.args.totals.now _ c.read_entries.new.totals c.requires.within_fronts c.in-Ok-false.ensures.sum
