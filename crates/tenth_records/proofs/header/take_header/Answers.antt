use Rattle.std.proofs.Common.{refl, ap, Err}
use Rattle.std.specs.Str.Lines.{lines}
use Rattle.tenth_records.specs.Unread.{name_in}
use Rattle.tenth_records.proofs.Reading.{long_header, no_header}
use Rattle.tenth_records.proofs.header.take_header.Goals as goal

pub returns-in-Ok-true-clause-first : goal.returns-in-Ok-true-clause-first
returns-in-Ok-true-clause-first g c file told =
    rw (c.requires.begins (file (name_in c.args.lines.now))) at (rw c.in-Ok-true.field-0-test at (c.in-Ok-true.ensures.read file told))

pub returns-in-Ok-false-clause-first : goal.returns-in-Ok-false-clause-first
returns-in-Ok-false-clause-first g c file told =
    let bytes = file (name_in c.args.lines.now) in
    let read = rw (c.requires.begins bytes) at (rw c.in-Ok-false.field-0-test at (c.in-Ok-false.ensures.read file told)) in
    rw c.refused.ensures (refl, no_header bytes read.0)

pub returns-in-Err-TooLong-clause-first : goal.returns-in-Err-TooLong-clause-first
returns-in-Err-TooLong-clause-first g c file told =
    let bytes = file (name_in c.args.lines.now) in
    let long = rw (c.requires.begins bytes) at (c.in-Err-TooLong.ensures.too_long file told (ap Err c.in-Err-TooLong.field-0-is)) in
    rw c.refused-in-Err-TooLong.ensures (refl, long_header (lines bytes) long.0 (lines long.1.0) long.1.1.0 long.1.1.1)
