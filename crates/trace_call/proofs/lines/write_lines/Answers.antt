use Rattle.std.proofs.Common.{[], map}
use Rattle.trace_lines.specs.Lines.{line_in}
use Rattle.trace_call.specs.Lines.{lines_text}
use Rattle.trace_call.proofs.lines.write_lines.Goals as goal

pub returns-clause-written : goal.returns-clause-written
returns-clause-written g c =
    let start = g.O.Sink.taken c.args.out.now in
    c.end.ensures.written start (lines_text c.args.style c.args.name.now c.args.text.now (map line_in c.args.lines.now))
    (c.put_lines.ensures.text start [] (c.new-draft.ensures.text start))
