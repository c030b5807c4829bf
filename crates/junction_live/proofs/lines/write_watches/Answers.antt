use Rattle.std.proofs.Common.{List, ℕ, Option, []}
use Rattle.junction_live.proofs.lines.write_watches.Goals as goal

pub returns-in-Ok-clause-lines : goal.returns-in-Ok-clause-lines
returns-in-Ok-clause-lines g c =
    let start : Option (List ℕ) = g.O.Sink.taken c.args.sink.now in
    let put = c.put_watches.ensures in
    (put.0, put.1, c.in-Ok.ensures.ok start _ (put.2.text start [] (c.new-draft.ensures.text start)))

pub returns-clause-lines : goal.returns-clause-lines
returns-clause-lines g c =
    let start : Option (List ℕ) = g.O.Sink.taken c.args.sink.now in
    let put = c.put_watches.ensures in
    let at = c.in-Err.ensures.fault start _ (put.2.text start [] (c.new-draft.ensures.text start)) in
    (put.0, put.1, (at.n, at.cut))
