use Rattle.std.proofs.Common.{[]}
use Rattle.log_svg.specs.Diagram.{diagram_text}
use Rattle.log_svg.specs.LookIn.{look_in}
use Rattle.log_svg.specs.ShownIn.{shown_in}
use Rattle.report_seen.proofs.diagram_call.write_diagram.Goals as goal

pub returns-clause-written : goal.returns-clause-written
returns-clause-written g c =
    let start = g.O.Sink.taken c.args.out.now in
    c.end.ensures.written start (diagram_text (shown_in c.args.diagram.now) (look_in c.args.look)) (c.put_diagram.ensures.text start [] (c.new-draft.ensures.text start))
