use Rattle.std.proofs.Common.{◌≡◌, ◌+◌, ◌≤◌, map, take, slice_index_or, sym, ap, ◌∙◌, arith}
use Rattle.std.specs.List.{sum_by}
use Rattle.std.proofs.lemmas.List.{length-map}
use Rattle.sig_types.specs.Counts.{count_of, fronts, rears}
use Rattle.det_board.specs.Passes.{Feeding}
use Rattle.det_stream.specs.Busy.{busy_counts}
use Rattle.junction_live.proofs.Sums.{next, one_more, all_played}
use Rattle.junction_live.proofs.feed.feed.Goals as goal

pub play_line-step-requires-clause-within_fronts : goal.play_line-step-requires-clause-within_fronts
play_line-step-requires-clause-within_fronts g c κs within =
    let lines = c.busy_lines-lines.result.now in
    let i = c.loop-line.line-index in
    let n = next lines (record { high = 0; low = 0; counts = (0, 0) }) (λ b. b.counts) c.args.place i c.args.frames.now c.requires.frames
    c.requires.place.1 c.busy_lines-lines.ensures c.loop-line-test.true in
    let counts = (slice_index_or lines i (record { high = 0; low = 0; counts = (0, 0) })).counts in
    let p : c.loop-line.pass.fronts ≡ sum_by (count_of fronts) (take i (map (λ b. b.counts) lines)) = ap (λ (f : Feeding). f.fronts) c.loop-line.invariant.0 in
    let r : c.loop-line.pass.rears ≡ sum_by (count_of rears) (take i (map (λ b. b.counts) lines)) = ap (λ (f : Feeding). f.rears) c.loop-line.invariant.0 in
    let q : c.loop-line.pass.rears + counts.1 ≤ c.loop-line.pass.fronts + counts.0 = omega (arith, n.ordered, p, r) in q

pub play_line-step-requires-clause-at_most : goal.play_line-step-requires-clause-at_most
play_line-step-requires-clause-at_most g c κs within =
    let lines = c.busy_lines-lines.result.now in
    let i = c.loop-line.line-index in
    let n = next lines (record { high = 0; low = 0; counts = (0, 0) }) (λ b. b.counts) c.args.place i c.args.frames.now c.requires.frames
    c.requires.place.1 c.busy_lines-lines.ensures c.loop-line-test.true in
    let counts = (slice_index_or lines i (record { high = 0; low = 0; counts = (0, 0) })).counts in
    let p : c.loop-line.pass.fronts ≡ sum_by (count_of fronts) (take i (map (λ b. b.counts) lines)) = ap (λ (f : Feeding). f.fronts) c.loop-line.invariant.0 in
    let q : c.loop-line.pass.fronts + counts.0 ≤ 2147483647 = omega (arith, n.bounded, p) in q

pub play_line-step-requires-clause-steps : goal.play_line-step-requires-clause-steps
play_line-step-requires-clause-steps g c κs within =
    let lines = c.busy_lines-lines.result.now in
    let i = c.loop-line.line-index in
    let n = next lines (record { high = 0; low = 0; counts = (0, 0) }) (λ b. b.counts) c.args.place i c.args.frames.now c.requires.frames
    c.requires.place.1 c.busy_lines-lines.ensures c.loop-line-test.true in
    omega (arith, n.bounded, n.bounded_rears, c.loop-line.invariant.1)

pub loop-line-preserved : goal.loop-line-preserved
loop-line-preserved g c =
    let lines = c.busy_lines-lines.result.now in
    let i = c.loop-line.line-index in
    let n = next lines (record { high = 0; low = 0; counts = (0, 0) }) (λ b. b.counts) c.args.place i c.args.frames.now c.requires.frames
    c.requires.place.1 c.busy_lines-lines.ensures c.loop-line-test.true in (
      one_more c.args.pass.now c.loop-line.pass c.play_line-step.new.pass i (map (λ b. b.counts) lines) _ n c.loop-line.invariant.0
          c.play_line-step.ensures.pass,
      omega (arith, n.fronts_are, n.rears_are, c.loop-line.invariant.1, c.play_line-step.ensures.step),
    )

pub returns : goal.returns
returns g c =
    let lines = c.busy_lines-lines.result.now in
    all_played c.args.pass.now c.loop-line.pass c.loop-line.line-index c.args.frames.now (map (λ b. b.counts) lines)
    (c.busy_lines-lines.ensures ∙ ap (λ d. busy_counts d c.args.frames.now) (sym c.requires.place.0))
    (omega (arith, length-map lines (λ b. b.counts), c.loop-line-test.false)) c.loop-line.invariant.0
