use Rattle.std.proofs.Common.{◌≡◌, ◌≤◌, take}
use Rattle.std.specs.List.{flat_map}
use Rattle.std.specs.Io.KnownBytes.{append_known}
use Rattle.sig_io.proofs.pieces.put_apart.Given as goal

abbrev pub invariant-loop-piece : goal.invariant-loop-piece
invariant-loop-piece g l =
    (g.O.Sink.taken l.sink ≡ append_known (g.O.Sink.taken l.fn.sink) (flat_map (λ piece. piece.now) (take l.piece-index l.pieces)))
    × (g.O.Sink.faults l.fn.sink ≤ g.O.Sink.faults l.sink)
