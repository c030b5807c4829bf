use Rattle.std.proofs.Common.{[]}
use Rattle.report_seen.specs.DiagramCall.{usage_text}
use Rattle.report_seen.proofs.diagram_call.write_usage.Goals as goal

pub returns-clause-written : goal.returns-clause-written
returns-clause-written g c =
    let start = g.O.Sink.taken c.args.out.now in
    c.end.ensures.written start usage_text (c.put_usage.ensures.text start [] (c.new-draft.ensures.text start))
