use Rattle.std.proofs.Common.{[]}
use Rattle.tenth_report.specs.Kept.{found_text}
use Rattle.tenth_report.proofs.call.write_found.Goals as goal

pub returns-clause-written : goal.returns-clause-written
returns-clause-written g c =
    let start = g.O.Sink.taken c.args.out.now in
    c.end.ensures.written start (found_text c.args.csv c.args.plan.now.names c.args.found.now)
    (c.put_found.ensures.text start [] (c.new-draft.ensures.text start))
