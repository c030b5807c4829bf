use Rattle.std.proofs.Common.{◌≡◌, ◌*◌}
use Rattle.det_board.specs.Passes.{Ticking, Taking}
use Rattle.det_board.proofs.tick.TickPass.read_rest.Given as goal

abbrev pub invariant-loop-place : goal.invariant-loop-place
invariant-loop-place l =
    (l.self.table ≡ l.fn.self.table) × ((begin : Ticking) → Taking (4 * l.four) begin l.fn.self l.fn.frame → Taking l.place begin l.self l.frame)
