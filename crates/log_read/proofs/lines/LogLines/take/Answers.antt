use Rattle.std.proofs.Common.{◌∙◌, ◌<◌, ◌≤◌, ap, refl, sym, arith}
use Rattle.log_read.specs.Left.{is_watched, line_told, lines_left}
use Rattle.log_read.specs.Taken.{all_lines, begin_in, is_told, line_taken, lines_taken, name_in}
use Rattle.log_read.proofs.TakenLemmas.{all_taken, first_kept, left_behind, long_there, many_there, stands_at}
use Rattle.log_read.proofs.lines.LogLines.take.Goals as goal

pub returns-in-Ok-false-clause-taken : goal.returns-in-Ok-false-clause-taken
unfolding name_in all_lines is_told lines_taken line_taken
returns-in-Ok-false-clause-taken g c file told had =
    let s = c.args.self.now in
    let bytes = file (name_in s) in
    let read = rw c.in-Ok-false.field-0-test at (c.in-Ok-false.ensures.told file told) in
    let all = all_taken _ s.lines (lines_left s.told bytes) had.rest read.0 in
    (all, record { rest = rw c.next_line.ensures.watched (read.1 ∙ sym read.0 ∙ had.rest); first = rw c.next_line.ensures.watched had.first })

pub returns-in-Err-TooLong-clause-taken : goal.returns-in-Err-TooLong-clause-taken
unfolding name_in all_lines is_told lines_taken line_taken
returns-in-Err-TooLong-clause-taken g c file told had =
    let s = c.args.self.now in
    let bytes = file (name_in s) in
    let there = long_there _ s.lines (lines_left s.told bytes) had.rest c.too_long.result
    (rw c.in-Err-TooLong.field-0-is at (c.in-Err-TooLong.ensures.told file told)) c.too_long.ensures in
    rw c.refused_at.ensures ((refl, there.0, there.1), tt)

pub returns-then-self-eq-MOST-clause-taken : goal.returns-then-self-eq-MOST-clause-taken
unfolding name_in all_lines is_told lines_taken line_taken
returns-then-self-eq-MOST-clause-taken g c file told had =
    let s = c.args.self.now in
    let bytes = file (name_in s) in
    let read = rw c.in-Ok-true.field-0-test at (c.in-Ok-true.ensures.told file told) in
    let there = many_there _ s.lines (lines_left s.told bytes) had.rest _ _ read.0 (omega (arith, c.if-self-eq-MOST.true)) in
    rw c.refused_at-then-self-eq-MOST.ensures ((refl, there.0, there.1), tt)

pub returns-clause-taken : goal.returns-clause-taken
unfolding name_in all_lines is_told lines_taken line_taken begin_in
returns-clause-taken g c file told had =
    let s = c.args.self.now in
    let bytes = file (name_in s) in
    let read = rw c.in-Ok-true.field-0-test at (c.in-Ok-true.ensures.told file told) in
    let few : s.lines < 604802 = omega (arith, s.at_most, c.if-self-eq-MOST.false) in
    let stands = stands_at _ s.lines (lines_left s.told bytes) had.rest _ _ read.0 few read.1 in (
      stands,
      record {
        rest = rw c.next_line.ensures.watched (left_behind _ s.lines (lines_left s.told bytes) had.rest _ _ read.0);
        first = λ some. rw c.next_line.ensures.watched (rw c.line.ensures at c.first_after-self.ensures.first
            ∙ first_kept s.begin _ s.lines s.first _ stands s.one had.first (omega (arith, some)));
      },
    )
