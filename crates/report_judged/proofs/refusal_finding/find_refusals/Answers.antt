use Rattle.std.proofs.Common.{◌≡◌, ◌∙◌, [], Ok, arith, ap, length, sym}
use Rattle.sig_tables.specs.SiteRules.{rules_of}
use Rattle.log_read.specs.RecordAnswers.{names_of}
use Rattle.refusal_text.specs.Kept.{groups_of}
use Rattle.report_judged.proofs.RefusalReading.{read_next, read_whole, unread_next}
use Rattle.report_judged.proofs.refusal_finding.find_refusals.Goals as goal

pub returns-in-Err-clause-found : goal.returns-in-Err-clause-found
returns-in-Err-clause-found g c file told =
    c.stop_of.ensures.unread c.args.tables.now.plan.names (file c.args.log.now) [] (c.in-Err.ensures.opened file told)

pub records-init : goal.records-init
records-init g c = record {
  so_far = record {
    records = [];
    reads = λ file told. c.in-Ok.ensures.opened file told;
    found = c.new-refusals.ensures.found (rules_of c.args.tables.now.times c.args.tables.now.intergreens) (c.requires.times ∙ sym c.groups.ensures.count);
  };
  told = c.in-Ok.ensures.contents_stay;
  name = c.in-Ok.ensures.name;
  names = c.in-Ok.ensures.names;
  begin = c.in-Ok.ensures.begin;
  given = c.in-Ok.ensures.by;
  live = c.in-Ok.ensures.live;
  groups = c.new-refusals.ensures.groups ∙ c.groups.ensures.count;
  count = c.new-refusals.ensures.records ∙ sym c.in-Ok.ensures.given;
  most = omega (arith, c.in-Ok.ensures.given);
  later = c.in-Ok.ensures.later;
}

pub show-requires-clause-rec : goal.show-requires-clause-rec
show-requires-clause-rec g c =
    let before = c.records.invariant in
    let same : length (names_of c.next_record.new.self) ≡ groups_of c.records.refusals =
    ap length (c.in-Ok-true.ensures.names ∙ before.names) ∙ sym before.groups in
    rw c.current.ensures (rw same at (c.in-Ok-true.ensures.record (ap Ok c.in-Ok-true.field-0-test)))

pub records-preserved : goal.records-preserved
records-preserved g c =
    let before = c.records.invariant in
    let found = ap Ok c.in-Ok-true.field-0-test in
    record {
      so_far = read_next (g.F.Files.told c.args.files.now) c.args.log.now c.records.part c.next_record.new.self
          (rules_of c.args.tables.now.times c.args.tables.now.intergreens) c.args.from c.args.to c.records.refusals c.show.new.self c.current.result.now
          before.name (λ file told. rw c.in-Ok-true.field-0-test at (c.in-Ok-true.ensures.next file (before.told ∙ told))) c.current.ensures
          c.in-Ok-show.ensures.found before.so_far;
      told = c.in-Ok-true.ensures.contents_stay ∙ before.told;
      name = c.in-Ok-true.ensures.name ∙ before.name;
      names = c.in-Ok-true.ensures.names ∙ before.names;
      begin = c.in-Ok-true.ensures.begin ∙ before.begin;
      given = c.in-Ok-true.ensures.by ∙ before.given;
      live = c.in-Ok-true.ensures.live;
      groups = c.in-Ok-show.ensures.groups ∙ before.groups;
      count = omega (arith, c.in-Ok-show.ensures.records, c.in-Ok-true.ensures.given found, before.count);
      most = c.in-Ok-true.ensures.at_most found;
      later = omega (arith, before.later, c.in-Ok-true.ensures.later);
    }

pub returns-in-Ok-false-clause-found : goal.returns-in-Ok-false-clause-found
returns-in-Ok-false-clause-found g c file told =
    let before = c.records.invariant in
    read_whole (g.F.Files.told c.args.files.now) c.args.tables.now.plan.names c.args.log.now c.records.part c.next_record.new.self
    (rules_of c.args.tables.now.times c.args.tables.now.intergreens) c.args.from c.args.to c.records.refusals before.name before.names before.begin before.given
    (λ f t. rw c.in-Ok-false.field-0-test at (c.in-Ok-false.ensures.next f (before.told ∙ t))) before.so_far file told

pub returns-in-Err-next_record-clause-found : goal.returns-in-Err-next_record-clause-found
returns-in-Err-next_record-clause-found g c file told =
    let before = c.records.invariant in
    unread_next (g.F.Files.told c.args.files.now) c.args.tables.now.plan.names c.args.log.now c.records.part c.next_record.new.self
    (rules_of c.args.tables.now.times c.args.tables.now.intergreens) c.args.from c.args.to c.records.refusals c.in-Err-next_record.stop
    c.stop_of-in-Err-next_record.result before.name before.names before.begin before.given (λ f t. c.in-Err-next_record.ensures.next f (before.told ∙ t))
    c.stop_of-in-Err-next_record.ensures.unread before.so_far file told
