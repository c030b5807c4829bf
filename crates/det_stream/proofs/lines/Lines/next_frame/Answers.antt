use Rattle.std.proofs.Common.{ap, Err, refl, arith, ◌<◌, length}
use Rattle.std.specs.Str.Lines.{lines}
use Rattle.det_stream.specs.Answers.{Gave, Reads, frame_in, name_of}
use Rattle.det_stream.specs.Unread.{line_of, unread_bytes}
use Rattle.det_stream.proofs.TotalLemmas.{totals_more, takes_next}
use Rattle.det_stream.proofs.Steps.{before_of, before_size, before_totals, refused, ended, given_more, read_more, still_read}
use Rattle.det_stream.proofs.lines.Lines.next_frame.Goals as goal

pub returns-in-Ok-false-clause-next : goal.returns-in-Ok-false-clause-next
unfolding Reads name_of
returns-in-Ok-false-clause-next g c file told frames read =
    let none = rw c.in-Ok-false.field-0-test at (c.in-Ok-false.ensures.read file told) in
    (ended c.args.self.now _ frames read none.0, still_read c.args.self.now _ _ frames read refl refl none.0 none.1)

pub returns-in-Err-TooLong-clause-next : goal.returns-in-Err-TooLong-clause-next
unfolding Reads name_of
returns-in-Err-TooLong-clause-next g c file told frames read =
    let bytes = file (name_of c.args.self.now) in
    let long = c.in-Err-TooLong.ensures.too_long file told (ap Err c.in-Err-TooLong.field-0-is) in
    rw c.refusal.ensures
    (refused c.args.self.now bytes frames long.0 (lines long.1.0) c.too_long.result read long.1.1.0
    (c.too_long.ensures (before_of bytes frames) (before_size c.args.self.now bytes frames read) long.0 long.1.1.1))

pub returns-in-Err-clause-next : goal.returns-in-Err-clause-next
unfolding Reads name_of
returns-in-Err-clause-next g c file told frames read =
    let bytes = file (name_of c.args.self.now) in
    let line = rw c.in-Ok-true.field-0-test at (c.in-Ok-true.ensures.read file told) in
    rw c.refusal-in-Err.ensures
    (refused c.args.self.now bytes frames (line_of c.next_line.new.self) (lines (unread_bytes c.next_line.new.self bytes)) c.in-Err.why read line.0
    (rw c.line.ensures at (c.in-Err.ensures.judged (before_of bytes frames) (before_size c.args.self.now bytes frames read)
    (rw c.line.ensures line.1) (before_totals c.args.self.now bytes frames read))))

pub returns-clause-gave : goal.returns-clause-gave
unfolding Gave frame_in
returns-clause-gave g c ok frames gave =
    let few : length frames < 604800 = omega (arith, gave.count, c.in_default.ensures.below) in (
      given_more c.args.self.now _ frames gave refl c.in_default.ensures.below c.in_default.ensures.size c.in_default.ensures.counts
          c.in_default.ensures.sum c.in_default.ensures.within_fronts,
      takes_next c.args.self.now.second frames c.read_line-judged.new.frame c.read_line-judged.new.totals c.in_default.ensures.below few
          c.in_default.ensures.size
          (totals_more c.args.self.now.totals c.read_line-judged.new.frame c.read_line-judged.new.totals frames gave.totals_are c.in_default.ensures.sum)
          c.in_default.ensures.totals c.in_default.ensures.within_fronts,
    )

pub returns-clause-next : goal.returns-clause-next
unfolding Reads name_of frame_in
returns-clause-next g c file told frames read =
    let bytes = file (name_of c.args.self.now) in
    let line = rw c.in-Ok-true.field-0-test at (c.in-Ok-true.ensures.read file told) in
    let judged = rw c.line.ensures at (c.in_default.ensures.judged (before_of bytes frames) (before_size c.args.self.now bytes frames read)
    (rw c.line.ensures line.1) (before_totals c.args.self.now bytes frames read)) in
    read_more c.args.self.now _ bytes frames (line_of c.next_line.new.self) read
    (given_more c.args.self.now _ frames read.gave refl c.in_default.ensures.below c.in_default.ensures.size c.in_default.ensures.counts
    c.in_default.ensures.sum c.in_default.ensures.within_fronts)
    line.0 judged (rw c.line.ensures at c.in_default.ensures.frame)
