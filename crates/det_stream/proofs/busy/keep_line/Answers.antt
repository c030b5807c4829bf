use Rattle.std.proofs.Common.{◌≡◌, ◌++◌, ◌<◌, [], length, map, slice_index_or, sym, ap, ◌∙◌, arith}
use Rattle.std.proofs.lemmas.List.{get_or-map, map-set, length-map, length-set}
use Rattle.det_stream.specs.Busy.{line_kept}
use Rattle.det_stream.proofs.BusyLemmas.{one_place}
use Rattle.det_stream.proofs.busy.keep_line.Goals as goal

pub loop-place-preserved : goal.loop-place-preserved
loop-place-preserved c =
    let rows = c.loop-place.detectors.items in
    let place = c.loop-place.place in
    let row = c.index_mut.result.now in
    let kept = c.keep.new.lines in
    let low : place < 64 = omega (arith, c.loop-place-test.true, c.span-low.ensures.high) in
    let within : place < length rows = omega (arith, low, c.loop-place.invariant.size) in
    let before = ap (λ v. v.items) (rw c.from.ensures at c.index_mut.ensures.value) ∙ sym (get_or-map (λ v. v.items) rows place row [] within) in
    let after : kept.items ≡ slice_index_or (map (λ v. v.items) rows) place [] ++ line_kept c.args.line (slice_index_or c.args.frame.now place (0, 0)) =
    c.in-Ok.ensures ∙ ap (λ l. l ++ line_kept c.args.line c.get.result) before ∙
    ap (λ n. slice_index_or (map (λ v. v.items) rows) place [] ++ line_kept c.args.line n) c.get.ensures.item in
    let step = one_place c.args.line place c.args.frame.now (map (λ v. v.items) c.args.detectors.now.items) (map (λ v. v.items) rows) kept.items
    (omega (arith, length-map rows (λ v. v.items), c.loop-place.invariant.size)) low c.loop-place.invariant.done_so_far c.loop-place.invariant.left after in
    rw (c.from.ensures, map-set (λ v. v.items) rows place kept)
    (record { size = omega (arith, length-set rows place kept, c.loop-place.invariant.size); done_so_far = step.0; left = step.1 })
