use Rattle.std.proofs.Common.{◌∙◌, Ok, ap, arith, length, refl}
use Rattle.log_read.specs.RecordAnswers.{names_of}
use Rattle.report_seen.proofs.LostReading.{lost_first, lost_next, lost_whole, untold_next}
use Rattle.report_seen.proofs.lost.find_lost.Goals as goal

pub records-init : goal.records-init
records-init g c = record {
  so_far = lost_first (g.F.Files.told c.args.files.now) c.args.records.now c.args.from c.args.to c.none_asked-asked.result c.new-starts.result.items
      c.new-starts.ensures.items (c.none_asked-asked.ensures (length (names_of c.args.records.now)) c.requires.few);
  told = refl;
  name = refl;
  names = refl;
  anywhere = c.requires.begin;
  found = c.requires.found;
  live = c.requires.live;
  most = omega (arith, c.requires.none);
  later = omega arith;
}

pub records-preserved : goal.records-preserved
records-preserved g c =
    let before = c.records.invariant in
    let found = ap Ok c.in-Ok-true.field-0-test in
    record {
      so_far = lost_next (g.F.Files.told c.args.files.now) c.args.records.now c.records.records c.next_record.new.self c.args.from c.args.to
          c.records.asked c.ask.new.asked c.records.starts.items c.put_second.new.starts.items before.name
          ((c.in-Ok-true.ensures.record found).picture ∙ ap length (c.in-Ok-true.ensures.names ∙ before.names))
          (λ file told. rw c.in-Ok-true.field-0-test at (c.in-Ok-true.ensures.next file (before.told ∙ told)))
          (rw c.current-in-Ok.ensures at c.ask.ensures) (rw c.current.ensures at c.in-Ok.ensures) before.so_far;
      told = c.in-Ok-true.ensures.contents_stay ∙ before.told;
      name = c.in-Ok-true.ensures.name ∙ before.name;
      names = c.in-Ok-true.ensures.names ∙ before.names;
      anywhere = c.in-Ok-true.ensures.begin ∙ before.anywhere;
      found = c.in-Ok-true.ensures.by ∙ before.found;
      live = c.in-Ok-true.ensures.live;
      most = c.in-Ok-true.ensures.at_most found;
      later = omega (arith, before.later, c.in-Ok-true.ensures.later);
    }

pub returns-in-Ok-false-clause-losing : goal.returns-in-Ok-false-clause-losing
returns-in-Ok-false-clause-losing g c =
    let before = c.records.invariant in
    lost_whole (g.F.Files.told c.args.files.now) c.args.records.now c.records.records c.next_record.new.self c.args.from c.args.to c.records.asked
    c.records.starts.items before.name before.names before.anywhere before.found
    (λ f t. rw c.in-Ok-false.field-0-test at (c.in-Ok-false.ensures.next f (before.told ∙ t))) before.so_far

pub returns-in-Err-clause-losing : goal.returns-in-Err-clause-losing
returns-in-Err-clause-losing g c =
    let before = c.records.invariant in
    rw c.stop_of.ensures
    (untold_next (g.F.Files.told c.args.files.now) c.args.records.now c.records.records c.next_record.new.self c.args.from c.args.to c.records.asked
    c.records.starts.items c.in-Err.stop before.name before.anywhere before.found
    (λ f t. c.in-Err.ensures.next f (before.told ∙ t)) before.so_far)
