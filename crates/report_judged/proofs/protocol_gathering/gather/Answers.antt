use Rattle.std.proofs.Common.{◌≡◌, ◌∙◌, Ok, arith, ap, length}
use Rattle.report_judged.proofs.ProtocolReading.{gather_next, gather_whole, unread_next}
use Rattle.report_judged.proofs.protocol_gathering.gather.Goals as goal

pub lines-preserved : goal.lines-preserved
lines-preserved g c =
    let before = c.lines.invariant in
    let found = ap Ok c.in-Ok-true.field-0-test in
    record {
      gathered = gather_next (g.F.Files.told c.args.files.now) c.args.plan.now.names c.args.log.now c.lines.part c.next_picture.new.self c.lines.page c.add.new.self
          c.picture.result.now before.name (λ file told. rw c.in-Ok-true.field-0-test at (c.in-Ok-true.ensures.next file (before.told ∙ told)))
          c.picture.ensures c.add.ensures.page before.gathered;
      told = c.in-Ok-true.ensures.contents_stay ∙ before.told;
      name = c.in-Ok-true.ensures.name ∙ before.name;
      begin = c.in-Ok-true.ensures.begin ∙ before.begin;
      live = c.in-Ok-true.ensures.live;
      groups = c.add.ensures.groups ∙ before.groups;
      seconds = omega (arith, c.add.ensures.seconds, c.in-Ok-true.ensures.given found, before.seconds);
      most = c.in-Ok-true.ensures.at_most found;
      later = omega (arith, before.later, c.in-Ok-true.ensures.later);
    }

pub returns-in-Ok-false-clause-gathering : goal.returns-in-Ok-false-clause-gathering
returns-in-Ok-false-clause-gathering g c file told =
    let before = c.lines.invariant in
    gather_whole (g.F.Files.told c.args.files.now) c.args.plan.now.names c.args.log.now c.lines.part c.next_picture.new.self c.lines.page
    c.first.result before.name before.begin c.in-Ok-false.ensures.begin (λ f t. rw c.in-Ok-false.field-0-test at (c.in-Ok-false.ensures.next f (before.told ∙ t))) c.first.ensures.told before.gathered file told

pub returns-in-Err-next_picture-clause-gathering : goal.returns-in-Err-next_picture-clause-gathering
returns-in-Err-next_picture-clause-gathering g c file told =
    let before = c.lines.invariant in
    unread_next (g.F.Files.told c.args.files.now) c.args.plan.now.names c.args.log.now c.lines.part c.next_picture.new.self c.lines.page
    c.in-Err-next_picture.refusal c.stop_of.result before.name before.begin (λ f t. c.in-Err-next_picture.ensures.next f (before.told ∙ t)) c.stop_of.ensures.unread
    before.gathered file told
