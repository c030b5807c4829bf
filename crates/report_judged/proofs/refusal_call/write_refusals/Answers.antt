use Rattle.std.proofs.Common.{[]}
use Rattle.refusal_text.specs.Kept.{told_text}
use Rattle.report_judged.proofs.refusal_call.write_refusals.Goals as goal

pub returns-clause-written : goal.returns-clause-written
returns-clause-written g c =
    let start = g.O.Sink.taken c.args.out.now in
    c.end.ensures.written start (told_text c.args.csv c.args.plan.now.names c.args.refusals.now)
    (c.put_refusals.ensures.text start [] (c.new-draft.ensures.text start))
