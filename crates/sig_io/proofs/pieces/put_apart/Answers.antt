use Rattle.std.proofs.Common.{arith}
use Rattle.sig_io.proofs.Each.{cut_in}
use Rattle.sig_io.proofs.pieces.put_apart.Goals as goal

pub returns-in-Err-clause-fault : goal.returns-in-Err-clause-fault
returns-in-Err-clause-fault g c =
    cut_in (λ piece. piece.now) _ _ _ c.args.pieces.now c.loop-piece.piece-index c.in-Err._fault.taken _ (omega (arith, c.loop-piece.auto.piece-index-end, c.loop-piece-test.true))
    c.loop-piece.invariant.0 c.in-Err.ensures.fault.0 c.in-Err.ensures.fault.1
