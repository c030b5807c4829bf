use Rattle.std.proofs.Common.{[], ◌∙◌, Ok, arith, length, sym, ap}
use Rattle.log_read.specs.RecordAnswers.{names_of, record_given, records_given}
use Rattle.log_read.proofs.Ranges.{recorded}
use Rattle.log_read.proofs.Said.{said_at_one}
use Rattle.report_seen.proofs.Drawing.{rows_of}
use Rattle.report_seen.proofs.DiagramReading.{draw_first, draw_next, draw_whole, ends_early, undrawn, undrawn_next}
use Rattle.report_seen.proofs.Showable.{showable}
use Rattle.report_seen.proofs.gathering.gather.Goals as goal

pub returns-in-Err-clause-gathering : goal.returns-in-Err-clause-gathering
returns-in-Err-clause-gathering g c file told =
    rw c.stop_of.ensures (undrawn [] (file c.args.log.now) [] c.args.window.to c.in-Err.stop (c.in-Err.ensures.opened file told []))

pub loop-line-init : goal.loop-line-init
loop-line-init g c = record {
  drawn = draw_first (g.F.Files.told c.args.files.now) c.args.log.now c.in-Ok.records c.args.window c.in-Ok-begin.diagram
      c.in-Ok.ensures.given c.in-Ok.ensures.opened (rw c.names.ensures.names at c.in-Ok-begin.ensures.drawn) c.in-Ok-begin.ensures.covers;
  told = c.in-Ok.ensures.contents_stay;
  name = c.in-Ok.ensures.name;
  one = c.in-Ok.ensures.begin;
  found = c.in-Ok.ensures.found;
  live = c.in-Ok.ensures.live;
  few = c.in-Ok.ensures.few;
  count = c.in-Ok.ensures.given;
  most = omega (arith, c.in-Ok.ensures.given);
  later = c.in-Ok.ensures.later;
}

pub loop-line-preserved : goal.loop-line-preserved
loop-line-preserved g c =
    let before = c.loop-line.invariant in
    let found = ap Ok c.in-Ok-true.field-0-test in
    record {
      drawn = draw_next (g.F.Files.told c.args.files.now) c.args.log.now c.loop-line.records c.next_record.new.self c.args.window
          c.loop-line.diagram c.take_record.new.diagram c.requires
          before.name c.in-Ok-true.ensures.names (c.in-Ok-true.ensures.given found)
          (λ file told. rw c.in-Ok-true.field-0-test at (c.in-Ok-true.ensures.next file (before.told ∙ told))) (said_at_one c.next_record.new.self (c.in-Ok-true.ensures.begin ∙ before.one) (c.in-Ok-true.ensures.said found))
          (λ names records window is second drawn. rw c.current.ensures at
          (c.in-Ok-take_record.ensures.drawn names records window is (rw c.current.ensures second) drawn))
          (λ records second small covers. rw c.current.ensures at
          (c.in-Ok-take_record.ensures.covers records (rw c.current.ensures second) small covers)) before.drawn;
      told = c.in-Ok-true.ensures.contents_stay ∙ before.told;
      name = c.in-Ok-true.ensures.name ∙ before.name;
      one = c.in-Ok-true.ensures.begin ∙ before.one;
      found = c.in-Ok-true.ensures.by ∙ before.found;
      live = c.in-Ok-true.ensures.live;
      few = rw c.in-Ok-true.ensures.names before.few;
      count = omega (arith, c.in-Ok-true.ensures.given found, before.count);
      most = c.in-Ok-true.ensures.at_most found;
      later = omega (arith, before.later, c.in-Ok-true.ensures.later);
    }

pub take_record-requires-clause-groups : goal.take_record-requires-clause-groups
take_record-requires-clause-groups g c =
    let new = c.next_record.new.self in
    let before = c.loop-line.invariant.drawn in
    let said = said_at_one new (c.in-Ok-true.ensures.begin ∙ c.loop-line.invariant.one) (c.in-Ok-true.ensures.said (ap Ok c.in-Ok-true.field-0-test)) in
    let is = recorded (names_of new) (records_given new) said.0 (record_given new) said.1 in
    let rows = rows_of (names_of c.loop-line.records) before.records c.args.window.from c.args.window.to c.loop-line.diagram before.drawn in
    rw c.current.ensures (is.picture ∙ ap length c.in-Ok-true.ensures.names ∙ sym rows)

pub take_record-requires-clause-covers : goal.take_record-requires-clause-covers
take_record-requires-clause-covers g c = c.loop-line.invariant.drawn.covers.size

pub take_record-requires-clause-fits : goal.take_record-requires-clause-fits
take_record-requires-clause-fits g c = omega (arith, c.loop-line.invariant.drawn.drawn.past_is, c.requires.order, c.requires.last)

pub returns-then-count-window-clause-gathering : goal.returns-then-count-window-clause-gathering
returns-then-count-window-clause-gathering g c file told =
    let before = c.loop-line.invariant in
    ends_early (g.F.Files.told c.args.files.now) c.args.log.now c.loop-line.records c.next_record.new.self c.args.window c.loop-line.diagram
    c.count-count.result before.name before.one before.found c.count-count.ensures
    (c.in-Ok-false.ensures.no_record (ap Ok c.in-Ok-false.field-0-test)) (omega (arith, c.if-count-window.true))
    (λ f t. rw c.in-Ok-false.field-0-test at (c.in-Ok-false.ensures.next f (before.told ∙ t))) before.drawn file told

pub returns-in-Ok-false-clause-gathering : goal.returns-in-Ok-false-clause-gathering
returns-in-Ok-false-clause-gathering g c file told =
    let before = c.loop-line.invariant in
    draw_whole (g.F.Files.told c.args.files.now) c.args.log.now c.loop-line.records c.next_record.new.self c.args.window c.loop-line.diagram
    c.count-count.result c.requires before.name before.one before.found c.count-count.ensures
    (c.in-Ok-false.ensures.no_record (ap Ok c.in-Ok-false.field-0-test)) (omega (arith, c.if-count-window.false))
    (λ f t. rw c.in-Ok-false.field-0-test at (c.in-Ok-false.ensures.next f (before.told ∙ t))) before.drawn file told

pub returns-in-Ok-false-clause-shown : goal.returns-in-Ok-false-clause-shown
returns-in-Ok-false-clause-shown g c =
    let before = c.loop-line.invariant in
    showable (names_of c.loop-line.records) before.drawn.records c.args.window c.loop-line.diagram c.requires before.few before.drawn.said
    (omega (arith, c.if-count-window.false, c.count-count.ensures, before.drawn.count, c.in-Ok-false.ensures.no_record (ap Ok c.in-Ok-false.field-0-test)))
    before.drawn.drawn before.drawn.covers.size

pub returns-in-Err-next_record-clause-gathering : goal.returns-in-Err-next_record-clause-gathering
returns-in-Err-next_record-clause-gathering g c file told =
    let before = c.loop-line.invariant in
    rw c.stop_of-in-Err-next_record.ensures
    (undrawn_next (g.F.Files.told c.args.files.now) c.args.log.now c.loop-line.records c.next_record.new.self c.args.window c.loop-line.diagram
    c.in-Err-next_record.stop before.name before.one before.found (λ f t. c.in-Err-next_record.ensures.next f (before.told ∙ t)) before.drawn file told)
