use Rattle.std.proofs.Common.{[]}
use Rattle.report_seen.specs.DiagramCall.{version_text}
use Rattle.report_seen.proofs.diagram_call.write_version.Goals as goal

pub returns-clause-written : goal.returns-clause-written
returns-clause-written g c =
    let start = g.O.Sink.taken c.args.out.now in
    c.end.ensures.written start version_text (c.put_version.ensures.text start [] (c.new-draft.ensures.text start))
