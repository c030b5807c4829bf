use Rattle.std.proofs.Common.{◌≡◌, length, sym, ap, ◌∙◌, subst, arith}
use Rattle.atomic_table.specs.Table.{Me, Joins}
use Rattle.det_board.specs.declared.view.View.{View}
use Rattle.det_board.specs.declared.view.View.TheVariants.{Tick, Feeder, Spent}
use Rattle.det_board.specs.Rule.{Keeps, dealt_of, loads_of, owned_of, given_back}
use Rattle.det_board.proofs.Allowed.{give_back_allows}
use Rattle.det_board.proofs.close.give_back.Goals as goal

pub join_seat-requires : goal.join_seat-requires
join_seat-requires c =
    let z = c.board.inside.table.shared in
    let p = c.feeder.inside in
    let me = c.args.seat.now.me in
    let table = ap (λ b. b.table) c.board.view_is in
    let same : length (owned_of me.0) ≡ z.key = c.requires.room ∙ sym (c.board.invariant.0 ∙ ap (λ b. b.detectors) c.board.view_is) in
    let mine : me.0 ≡ Tick (dealt_of me.0) (loads_of me.0) (owned_of me.0) = ap (λ (m : Me _ View). m.0) c.requires.tick in
    let theirs : p.seat.me.0 ≡ Feeder p.place p.counts.value.fronts p.counts.value.rears = ap (λ (m : Me _ View). m.0) c.feeder.invariant.view in
    let P : View → View → Type 0 = λ v w. Joins (Keeps z.key) c.args.seat.now.id v p.seat.id w (given_back v w) Spent in (
      c.requires.board.0 ∙ sym table,
      ap (λ f. f.table) c.feeder.view_is ∙ c.requires.board.1 ∙ sym table,
      ap (λ (m : Me _ View). m.1) c.feeder.invariant.view,
      (let a = c.board.invariant.1 in let b = c.board.invariant.2 in omega arith),
      subst (λ v. P v p.seat.me.0) (sym mine) (subst (λ w. P (Tick (dealt_of me.0) (loads_of me.0) (owned_of me.0)) w) (sym theirs)
          (give_back_allows z.key c.args.seat.now.id p.seat.id (dealt_of me.0) p.place p.counts.value.fronts p.counts.value.rears (loads_of me.0)
          (owned_of me.0) same)),
    )
