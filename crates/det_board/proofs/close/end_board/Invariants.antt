use Rattle.std.proofs.Common.{◌≡◌}
use Rattle.std.specs.Prelude.{vec_len}
use Rattle.det_board.proofs.Closing.{Gathering}
use Rattle.det_board.proofs.close.end_board.Given as goal

abbrev pub invariant-loop-feeder : goal.invariant-loop-feeder
invariant-loop-feeder l = (l.seat.table_id ≡ l.fn.board.table) × (l.board ≡ l.fn.board)
    × Gathering l.fn.feeders.items l.feeders.items l.fn.board.detectors l.fn.tick.loads l.seat.me l.counts

abbrev pub decreases-loop-feeder : goal.decreases-loop-feeder
decreases-loop-feeder l = vec_len l.feeders
