use Rattle.std.proofs.Common.{◌≡◌, ℤ, Vec, vec_len, Global, arith, map, length}
use Rattle.std.specs.Prelude.{◌∷◌, []}
use Rattle.std.proofs.lemmas.Result.{err_from_is_err_and}
use Rattle.std.proofs.lemmas.List.{map-append}
use Rattle.sig_types.specs.Limits.{most_cells}
use Rattle.code_file.specs.Text.{room_after}
use Rattle.code_file.specs.Reading.{many_at, array_in}
use Rattle.code_file.specs.Cursors.{place_of}
use Rattle.code_file.proofs.LoopLines.{goes_on, ends, is_done}
use Rattle.code_file.proofs.reading.arrays.Goals as goal

pub returns-in_err-values-clause-lines : goal.returns-in_err-values-clause-lines
returns-in_err-values-clause-lines c =
    let p = err_from_is_err_and c.from_residual.result c.from_residual.ensures.1 in
    rw (p.1, p.2) (ends array_in room_after c.in_err-values.field-0.0 (map (λ a. a.items) c.loop.arrays.items) c.args.count c.loop.counter
    c.loop.room (place_of c.loop.rest)
    (many_at array_in room_after c.args.count most_cells (place_of c.args.cursor)) c.loop-test.true c.in_err-values.ensures.line c.loop.invariant.0)

pub loop-preserved : goal.loop-preserved
loop-preserved c =
    let values = c.in_ok-values.values in
    let len : vec_len values ≡ length values.items = values.ok.0 in
    let more = goes_on array_in room_after (map (λ a. a.items) c.loop.arrays.items) c.args.count c.loop.counter c.loop.room (place_of c.loop.rest)
    (values.items, place_of c.in_ok-values.after)
    (many_at array_in room_after c.args.count most_cells (place_of c.args.cursor)) c.loop-test.true c.in_ok-values.ensures.line c.loop.invariant.0 in
    rw (c.in_ok-push.ensures.items, map-append (λ (a : Vec ℤ Global). a.items) c.loop.arrays.items (values ∷ []), c.len.ensures, len) (
      more,
      omega (arith, c.in_ok-values.ensures.number, c.loop.invariant.1),
      omega (arith, c.loop.invariant.2),
    )

pub returns-clause-lines : goal.returns-clause-lines
returns-clause-lines c =
    is_done array_in room_after (map (λ a. a.items) c.loop.arrays.items) c.args.count c.loop.counter c.loop.room (place_of c.loop.rest)
    (many_at array_in room_after c.args.count most_cells (place_of c.args.cursor)) c.loop-test.false c.loop.invariant.0
