use Rattle.std.proofs.Common.{length, ap, arith}
use Rattle.code_verify.proofs.ShapeFacts.{sum_with}
use Rattle.code_verify.proofs.shape.all_cells_fit.Goals as goal

pub returns-then-len-room : goal.returns-then-len-room
returns-then-len-room c = (
  (λ e. cc),
  (λ le. absurd (omega (
    arith,
    c.loop-array.invariant,
    c.if-len-room.true,
    c.len.ensures,
    ap (λ a. length a.items) c.array-item.is,
    sum_with (λ a. length a.items) c.args.arrays.now c.loop-array.array-index c.array-item.result c.loop-array-test.true,
  ))),
)
