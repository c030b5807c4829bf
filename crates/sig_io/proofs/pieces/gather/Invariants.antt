use Rattle.std.proofs.Common.{◌≡◌, ◌≤◌, length, take}
use Rattle.std.specs.List.{flat_map}
use Rattle.sig_io.proofs.pieces.gather.Given as goal

abbrev pub invariant-loop-piece : goal.invariant-loop-piece
invariant-loop-piece l =
    (take l.end l.buffer ≡ flat_map (λ piece. piece.now) (take l.piece-index l.pieces))
    × (l.end ≤ length l.buffer)
