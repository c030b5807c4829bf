use Rattle.std.proofs.Common.{[]}
use Rattle.report_seen.specs.SumsCall.{written_text}
use Rattle.report_seen.proofs.sums_call.write_sums.Goals as goal

pub returns-clause-written : goal.returns-clause-written
returns-clause-written g c =
    let start = g.O.Sink.taken c.args.out.now in
    c.end.ensures.written start (written_text c.args.csv c.args.names.now c.args.sums.now) (c.put_asked.ensures.text start [] (c.new-draft.ensures.text start))
