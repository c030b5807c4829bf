use Rattle.std.proofs.Common.{[]}
use Rattle.tenth_report.specs.Kept.{gathered_text}
use Rattle.tenth_report.specs.Tables.{rules_by_tables}
use Rattle.tenth_report.proofs.call.write_gathered.Goals as goal

pub returns-clause-written : goal.returns-clause-written
returns-clause-written g c =
    let start = g.O.Sink.taken c.args.out.now in
    let t = c.args.tables.now in
    c.end.ensures.written start (gathered_text c.args.csv t.plan.names (rules_by_tables t) c.args.gathered.now)
    (rw (c.limits_of-limits.ensures.times, c.limits_of-limits.ensures.pairs) at (c.put_gathered.ensures.text start [] (c.new-draft.ensures.text start)))
