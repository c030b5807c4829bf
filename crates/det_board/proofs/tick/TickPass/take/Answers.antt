use Rattle.std.proofs.Common.{◌≡◌, ℕ, ◌+◌, ◌*◌, ◌<◌, subst, arith}
use Rattle.det_board.specs.Passes.{Taking}
use Rattle.det_board.proofs.Taking.{nothing_taken, four_taken}
use Rattle.det_board.proofs.tick.TickPass.take.Goals as goal

pub loop-four-init : goal.loop-four-init
loop-four-init c = nothing_taken c.args.self.now _ c.clear.ensures

pub loop-four-preserved : goal.loop-four-preserved
loop-four-preserved c =
    let g : ℕ = c.loop-four.four in
    let low : 4 * g + 3 < 64 = let t = c.loop-four-test.true in let r = c.detectors-four-end.ensures.range.1 in omega arith in
    let next : 4 * g + 4 ≡ 4 * (g + 1) = omega arith in
    subst (λ (k : ℕ). Taking k c.args.self.now c.read_four.new.self c.read_four.new.frame) next
    (four_taken (4 * g) c.args.self.now c.loop-four.self c.read_four.new.self c.loop-four.frame c.read_four.new.frame c.loop-four.invariant low
    c.read_four.ensures)
