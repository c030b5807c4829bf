use Rattle.std.proofs.Common.{arith}
use Rattle.std.specs.Prelude.{None}
use Rattle.std.proofs.lemmas.Result.{err_from_is_err_and}
use Rattle.code_file.specs.Text.{last_after}
use Rattle.code_file.specs.Reading.{many_at, start_in}
use Rattle.code_file.specs.Cursors.{place_of}
use Rattle.code_file.proofs.LoopLines.{goes_on, ends, is_done}
use Rattle.code_file.proofs.reading.starts.Goals as goal

pub returns-in_err-first-clause-lines : goal.returns-in_err-first-clause-lines
returns-in_err-first-clause-lines c =
    let p = err_from_is_err_and c.from_residual.result c.from_residual.ensures.1 in
    rw (p.1, p.2) (ends start_in last_after c.in_err-first.field-0.0 c.loop.starts.items c.args.count c.loop.counter c.loop.last (place_of c.loop.rest)
    (many_at start_in last_after c.args.count None (place_of c.args.cursor)) c.loop-test.true c.in_err-first.ensures.line c.loop.invariant.0)

pub loop-preserved : goal.loop-preserved
loop-preserved c =
    let first = c.in_ok-first.first in
    rw c.in_ok-push.ensures.items (
      goes_on start_in last_after c.loop.starts.items c.args.count c.loop.counter c.loop.last (place_of c.loop.rest) (first, place_of c.in_ok-first.after)
          (many_at start_in last_after c.args.count None (place_of c.args.cursor)) c.loop-test.true c.in_ok-first.ensures.line c.loop.invariant.0,
      omega (arith, c.in_ok-first.ensures.number, c.loop.invariant.1),
    )

pub returns-clause-lines : goal.returns-clause-lines
returns-clause-lines c =
    is_done start_in last_after c.loop.starts.items c.args.count c.loop.counter c.loop.last (place_of c.loop.rest)
    (many_at start_in last_after c.args.count None (place_of c.args.cursor)) c.loop-test.false c.loop.invariant.0
