use Rattle.std.proofs.Common.{[]}
use Rattle.report_seen.specs.LostText.{lost_text}
use Rattle.report_seen.proofs.lost_call.write_lost.Goals as goal

pub returns-clause-written : goal.returns-clause-written
returns-clause-written g c =
    let start = g.O.Sink.taken c.args.out.now in
    c.end.ensures.written start (lost_text c.args.csv c.args.names.now c.args.starts.now) (c.put_lost_starts.ensures.text start [] (c.new-draft.ensures.text start))
