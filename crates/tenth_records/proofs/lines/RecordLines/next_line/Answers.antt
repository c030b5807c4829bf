use Rattle.line_reader.specs.Unread.{line_of, unread_bytes, was_ended}
use Rattle.tenth_records.specs.Unread.{name_in}
use Rattle.tenth_records.proofs.LineLemmas.{long_line, long_text, next_text}
use Rattle.tenth_records.proofs.lines.RecordLines.next_line.Goals as goal

pub returns-in-Err-clause-too_long : goal.returns-in-Err-clause-too_long
returns-in-Err-clause-too_long g c file told is =
    let r = c.args.self.now in
    long_line (unread_bytes r.reader (file (name_in r))) (rw r.longest at (c.in-Err.ensures.too_long file told is))

pub returns-then-line-gt-LONGEST-clause-too_long : goal.returns-then-line-gt-LONGEST-clause-too_long
returns-then-line-gt-LONGEST-clause-too_long g c file told is =
    let r = c.args.self.now in
    let bytes = file (name_in r) in
    let read = rw c.in-Ok-true.field-0-test at (c.in-Ok-true.ensures.read file told) in
    let new = c.next_line.new.self in
    long_text (unread_bytes r.reader bytes) (line_of new) (was_ended new) (unread_bytes new bytes) read.0 (rw c.line.ensures at c.if-line-gt-LONGEST.true)

pub returns-clause-read : goal.returns-clause-read
returns-clause-read g c file told =
    let r = c.args.self.now in
    let bytes = file (name_in r) in
    let read = rw c.in-Ok-true.field-0-test at (c.in-Ok-true.ensures.read file told) in
    let new = c.next_line.new.self in
    (next_text (unread_bytes r.reader bytes) (line_of new) (was_ended new) (unread_bytes new bytes) read.0, rw c.line.ensures at c.if-line-gt-LONGEST.false)
