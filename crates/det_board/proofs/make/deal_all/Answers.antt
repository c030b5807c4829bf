use Rattle.std.proofs.Common.{ap, arith}
use Rattle.det_board.proofs.Dealing.{ticking_first}
use Rattle.det_board.proofs.make.deal_all.Goals as goal

pub invariant_of-tick : goal.invariant_of-tick
invariant_of-tick c =
    let i = c.loop-place.invariant in
    let e = c.detectors-detectors.ensures in
    let words = ap (λ t. t.words) i.0 in
    ticking_first c.loop-place.seat.table_id c.loop-place.place c.args.board.now.detectors c.loop-place.seat.me c.zero.result i.1
    (let w = e.words in let d = e.count in omega arith) c.zero.ensures
