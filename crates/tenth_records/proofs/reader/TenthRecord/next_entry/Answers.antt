use Rattle.std.proofs.Common.{rules, ◌≡◌, ◌∙◌, ◌+◌, suc, Ok, Err, true, false, sym, ap, arith, refl}
use Rattle.std.specs.Str.Lines.{lines}
use Rattle.tenth_records.specs.Answers.{first_of, groups_of, is_live, left_told, name_of, next_of}
use Rattle.tenth_records.specs.Unread.{line_of, unread_bytes}
use Rattle.tenth_records.proofs.Reading.{counted_at_most, first_at_most, told_ended, told_entry, told_long, told_open, told_refused, within_week}
use Rattle.tenth_records.proofs.reader.TenthRecord.next_entry.Goals as goal

pub next_line-requires : goal.next_line-requires
unfolding is_live
next_line-requires g c =
    let r = c.args.self.now in
    omega (arith, counted_at_most r.count r.point.first r.point.next r.none_counted r.counted, r.given_at_most c.requires)

pub entry_of-requires-clause-first : goal.entry_of-requires-clause-first
entry_of-requires-clause-first g c =
    let r = c.args.self.now in
    first_at_most r.count r.point.first r.point.next r.counted

pub returns-in-Ok-false-clause-next : goal.returns-in-Ok-false-clause-next
unfolding left_told name_of
returns-in-Ok-false-clause-next g c file told =
    let r = c.args.self.now in
    let ended : r.point.ended ≡ true = search rules in
    let read = rw c.in-Ok-false.field-0-test at (c.in-Ok-false.ensures.read file told) in
    (told_ended r.groups r.point (suc r.count) _ read.0 ended, told_ended r.groups r.point (suc r.count) _ read.1 ended)

pub returns-in-Ok-false-2-clause-next : goal.returns-in-Ok-false-2-clause-next
unfolding left_told name_of
returns-in-Ok-false-2-clause-next g c file told =
    let r = c.args.self.now in
    let going : r.point.ended ≡ false = search rules in
    let one : r.count + 1 ≡ suc r.count = omega arith in
    let none : c.next_line.result ≡ Ok false = search rules in
    let read = rw none at (c.next_line.ensures.read file told) in
    told_open r.groups r.point r.count (r.count + 1) _ one read.0 going

pub returns-in-Err-TooLong-clause-next : goal.returns-in-Err-TooLong-clause-next
unfolding left_told name_of
returns-in-Err-TooLong-clause-next g c file told =
    let r = c.args.self.now in
    let one : r.count + 1 ≡ suc r.count = omega arith in
    let long = c.in-Err-TooLong.ensures.too_long file told (ap Err c.in-Err-TooLong.field-0-is) in
    told_long r.groups r.point r.count (r.count + 1) _ long.0 (lines long.1.0) one long.1.1.0 long.1.1.1

pub returns-in-Err-clause-next : goal.returns-in-Err-clause-next
unfolding left_told name_of
returns-in-Err-clause-next g c file told =
    let r = c.args.self.now in
    let one : r.count + 1 ≡ suc r.count = omega arith in
    let read = rw c.in-Ok-true.field-0-test at (c.in-Ok-true.ensures.read file told) in
    let wrong = rw c.line.ensures at (sym c.entry_of.ensures.entry ∙ c.in-Err.is) in
    told_refused r.groups r.point r.count (r.count + 1) _ (line_of c.next_line.new.self) (lines (unread_bytes c.next_line.new.self (file (name_of r)))) c.in-Err.why one read.0 wrong

pub returns-in-Ok-clause-next : goal.returns-in-Ok-clause-next
unfolding left_told name_of
returns-in-Ok-clause-next g c file told =
    let r = c.args.self.now in
    let one : r.count + 1 ≡ suc r.count = omega arith in
    let read = rw c.in-Ok-true.field-0-test at (c.in-Ok-true.ensures.read file told) in
    let right = rw c.line.ensures at (sym c.entry_of.ensures.entry ∙ c.in-Ok.is) in
    told_entry r.groups r.point c.after-self.result r.count (r.count + 1) _ (line_of c.next_line.new.self) (lines (unread_bytes c.next_line.new.self (file (name_of r)))) c.in-Ok.entry one read.0 right c.after-self.ensures

pub returns-in-Ok-clause-follows : goal.returns-in-Ok-clause-follows
unfolding first_of groups_of next_of
returns-in-Ok-clause-follows g c = record {
  later = c.in-Ok.ensures.later;
  next = rw c.after-self.ensures refl;
  first = rw c.after-self.ensures refl;
  week = within_week c.args.self.now.point.first c.in-Ok.entry.at c.in-Ok.ensures.within;
  at_most = c.in-Ok.ensures.at_most;
  sized = c.in-Ok.ensures.sized;
}

pub entry_of-requires-clause-short : goal.entry_of-requires-clause-short
entry_of-requires-clause-short g c = rw c.line.ensures (c.next_line.ensures.short (c.in-Ok-true.is ∙ ap Ok c.in-Ok-true.field-0-test))
