use Rattle.std.proofs.Common.{◌≡◌, ℕ, ◌<◌, Some}
use Rattle.std.specs.Prelude.{slice_get, vec_len}
use Rattle.det_board.specs.Passes.{Undealt}
use Rattle.det_board.proofs.make.deal_all.Given as goal

abbrev pub invariant-loop-place : goal.invariant-loop-place
invariant-loop-place l =
    (l.seat.table_id ≡ l.board.table)
    × Undealt l.place l.board.detectors l.seat.me
    × (vec_len l.feeders ≡ l.place)
    × ((k : ℕ) → k < l.place → slice_get l.feeders.items k ≡ Some (record { table = l.board.table; place = k; fronts = 0; rears = 0 }))
