use Rattle.std.proofs.Common.{◌≡◌, sym, ap, ◌∙◌, arith}
use Rattle.det_board.proofs.Dealing.{deals}
use Rattle.det_board.proofs.make.deal.Goals as goal

pub split_seat-requires : goal.split_seat-requires
split_seat-requires c =
    let z = c.board.inside.table.shared in
    let detectors = ap (λ b. b.detectors) c.board.view_is in
    let same : z.key ≡ c.args.board.now.detectors = c.board.invariant.0 ∙ detectors in (
      c.requires.board ∙ sym (ap (λ b. b.table) c.board.view_is),
      (let a = c.board.invariant.1 in let b = c.board.invariant.2 in omega arith),
      deals z.key c.args.board.now.detectors c.args.seat.now.id c.args.place c.args.seat.now.me same c.requires.undealt c.requires.inside,
    )
