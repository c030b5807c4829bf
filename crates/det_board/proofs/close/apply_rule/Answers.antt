use Rattle.std.proofs.Common.{ap, ◌∙◌, subst, arith}
use Rattle.det_board.specs.Passes.{WithinCounts}
use Rattle.det_board.proofs.Closing.{within_counts}
use Rattle.det_board.proofs.close.apply_rule.Goals as goal

pub free-requires : goal.free-requires
free-requires c = λ k lt. let n = c.close_with.ensures.counts in let z = c.board.invariant.4 in absurd (omega (arith, n.1))

pub returns : goal.returns
returns c =
    let z = c.board.inside.table.shared in
    let same = c.board.invariant.0 ∙ ap (λ b. b.detectors) c.board.view_is in
    subst (λ n. WithinCounts n c.args.seat.me.0) same (within_counts z.key c.args.seat.id c.args.seat.me.0 _ _ c.close_with.ensures.values.2)
