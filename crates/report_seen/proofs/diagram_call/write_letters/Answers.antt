use Rattle.std.proofs.Common.{[]}
use Rattle.report_seen.specs.Letters.{letters_text}
use Rattle.log_svg.specs.ShownIn.{shown_in}
use Rattle.report_seen.proofs.diagram_call.write_letters.Goals as goal

pub returns-clause-written : goal.returns-clause-written
returns-clause-written g c =
    let start = g.O.Sink.taken c.args.out.now in
    c.end.ensures.written start (letters_text (shown_in c.args.diagram.now)) (c.put_text.ensures.text start [] (c.new-draft.ensures.text start))
