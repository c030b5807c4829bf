use Rattle.std.proofs.Common.{◌≡◌, ℕ, ◌+◌, ◌%◌, ◌^◌, ◌<◌, sym, ap, ◌∙◌, subst, arith}
use mathlib.Core.Option.{none}
use Rattle.atomic_table.specs.Table.{Me, step, Allows}
use Rattle.det_board.specs.declared.view.View.{View}
use Rattle.det_board.specs.Rule.{most_fronts, Keeps, Fronts}
use Rattle.det_board.proofs.Allowed.{front_allows}
use Rattle.det_board.proofs.board.FeederPass.front.Goals as goal

pub fetch_add-requires : goal.fetch_add-requires
fetch_add-requires c =
    let z = c.board.inside.table.shared in
    let p = c.self.inside in
    let w : ℕ = c.fronts_word.result in
    let here : p.seat.table_id ≡ z.table_id = ap (λ f. f.table) c.self.view_is ∙ c.requires.board ∙ sym (ap (λ b. b.table) c.board.view_is) in
    let inside : w < z.table_id.words = let e = ap (λ t. t.words) here in let o = c.self.invariant.on_board in omega (arith, c.fronts_word.ensures) in
    let room : p.counts.value.fronts < most_fronts = let e = ap (λ f. f.fronts) c.self.view_is in let r = c.requires.room in omega arith in (
      here,
      inside,
      subst (λ (me : Me (Unit {0}) View). Allows (Keeps z.key) z.table_id.slots p.seat.id me w (λ n. (n + 1) % 2 ^ 64)
          (Fronts (step z.table_id.slots w 1 0 none) me)) (sym c.self.invariant.view)
          (front_allows z.key z.table_id.slots p.seat.id p.place p.counts.value.fronts p.counts.value.rears w (omega (arith, c.fronts_word.ensures)) room),
    )
