use Rattle.std.proofs.Common.{[]}
use Rattle.judge_text.specs.Lines.{breaches_text}
use Rattle.report_judged.proofs.breach_call.write_words.Goals as goal

pub returns-clause-written : goal.returns-clause-written
returns-clause-written g c =
    let start = g.O.Sink.taken c.args.out.now in
    let found = c.args.found.now in
    let put = rw c.deref.ensures.value at c.put_breaches.ensures in
    c.end.ensures.written start (breaches_text c.args.plan.now.names found.first found.pictures found.breaches.items)
    (put.text start [] (c.new-draft.ensures.text start))
