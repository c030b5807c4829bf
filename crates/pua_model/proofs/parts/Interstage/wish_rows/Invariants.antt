use Rattle.std.proofs.Common.{length, slice_index_or, false, None, pos}
use Rattle.pua_model.specs.Wish.{wished_by}
use Rattle.pua_model.proofs.Lists.{Wished}
use Rattle.pua_model.proofs.parts.Interstage.wish_rows.Given as goal

abbrev pub invariant-loop-g : goal.invariant-loop-g
invariant-loop-g l =
    Wished l.out (λ g. wished_by (slice_index_or l.self.rows g None) (pos l.t) (slice_index_or l.fn.out g false)) (λ g. slice_index_or l.fn.out g false)
    (length l.fn.out) l.g
