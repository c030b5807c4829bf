use Rattle.std.proofs.Common.{◌∙◌, Ok, arith, length, ap, refl}
use Rattle.log_read.specs.RecordAnswers.{names_of}
use Rattle.log_read.proofs.Said.{said_at_one}
use Rattle.report_seen.proofs.SumsReading.{read_first, read_next, read_whole, textual, unread_next}
use Rattle.report_seen.proofs.summing.add_up.Goals as goal

pub records-init : goal.records-init
records-init g c = record {
  so_far = read_first (g.F.Files.told c.args.files.now) c.args.records.now c.args.from c.args.to c.in-Ok.sums c.requires.none
      (c.in-Ok.ensures.sums (length (names_of c.args.records.now)) c.requires.few);
  serves = c.in-Ok.ensures.serves;
  told = refl;
  name = refl;
  names = refl;
  one = c.requires.begin;
  found = c.requires.found;
  live = c.requires.live;
  most = omega (arith, c.requires.none);
  later = omega arith;
}

pub records-preserved : goal.records-preserved
records-preserved g c =
    let before = c.records.invariant in
    let found = ap Ok c.in-Ok-true.field-0-test in
    record {
      so_far = read_next (g.F.Files.told c.args.files.now) c.args.records.now c.records.records c.next_record.new.self c.args.from c.args.to
          c.records.sums c.take_record.new.sums before.name before.names c.in-Ok-true.ensures.names (c.in-Ok-true.ensures.given found)
          (c.in-Ok-true.ensures.at_most found)
          (λ file told. rw c.in-Ok-true.field-0-test at (c.in-Ok-true.ensures.next file (before.told ∙ told))) (said_at_one c.next_record.new.self (c.in-Ok-true.ensures.begin ∙ before.one) (c.in-Ok-true.ensures.said found))
          (rw c.current.ensures at c.in-Ok-take_record.ensures.sums) before.so_far;
      serves = c.in-Ok-take_record.ensures.serves ∙ before.serves;
      told = c.in-Ok-true.ensures.contents_stay ∙ before.told;
      name = c.in-Ok-true.ensures.name ∙ before.name;
      names = c.in-Ok-true.ensures.names ∙ before.names;
      one = c.in-Ok-true.ensures.begin ∙ before.one;
      found = c.in-Ok-true.ensures.by ∙ before.found;
      live = c.in-Ok-true.ensures.live;
      most = c.in-Ok-true.ensures.at_most found;
      later = omega (arith, before.later, c.in-Ok-true.ensures.later);
    }

pub returns-in-Ok-false-clause-summing : goal.returns-in-Ok-false-clause-summing
returns-in-Ok-false-clause-summing g c file told =
    let before = c.records.invariant in
    read_whole (g.F.Files.told c.args.files.now) c.args.records.now c.records.records c.next_record.new.self c.args.from c.args.to c.records.sums
    before.name before.names before.one before.found (λ f t. rw c.in-Ok-false.field-0-test at (c.in-Ok-false.ensures.next f (before.told ∙ t)))
    c.sums_are_of_records.ensures before.so_far file told

pub returns-in-Ok-false-clause-textual : goal.returns-in-Ok-false-clause-textual
returns-in-Ok-false-clause-textual g c =
    let before = c.records.invariant in
    textual (length (names_of c.args.records.now)) c.args.from c.args.to before.so_far.records c.records.sums c.requires.few
    (omega (arith, before.so_far.count, before.most)) before.so_far.sums_are

pub returns-in-Err-next_record-clause-summing : goal.returns-in-Err-next_record-clause-summing
returns-in-Err-next_record-clause-summing g c file told =
    let before = c.records.invariant in
    rw c.stop_of.ensures
    (unread_next (g.F.Files.told c.args.files.now) c.args.records.now c.records.records c.next_record.new.self c.args.from c.args.to c.records.sums
    c.in-Err-next_record.stop before.name before.one before.found (λ f t. c.in-Err-next_record.ensures.next f (before.told ∙ t)) before.so_far file told)
