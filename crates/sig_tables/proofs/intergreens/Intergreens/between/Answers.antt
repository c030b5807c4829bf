use Rattle.std.proofs.Common.{◌≡◌, ◌∙◌, ◌≤◌, ℕ, sym, ap, length, get_or, Some, None, Option, arith}
use Rattle.std.specs.Prelude.{IfSome}
use Rattle.std.proofs.lemmas.List.{get_or_read_under}
use Rattle.sig_tables.specs.Pairs.{Pairs, cell_of}
use Rattle.sig_tables.proofs.Cells.{cell_in}
use Rattle.sig_tables.proofs.intergreens.Intergreens.between.Goals as goal

seconds_at_most : (o : Option ℕ) → ((z : ℕ) → o ≡ Some z → z ≤ 99) → IfSome o (λ z. z ≤ 99)
seconds_at_most None range = tt
seconds_at_most (Some z) range = range z (λ i. Some z)

pub narrow-requires : goal.narrow-requires
narrow-requires c =
    let count = ap (λ (p : Pairs). p.count) c.self.view_is in
    let is : c.index.result.now ≡ cell_of c.self.inside.cells.items c.args.from.0 c.args.to.0 =
    get_or_read_under c.self.inside.cells.items c.place_of.result (length c.self.inside.cells.items) c.index.result.now None c.index.ensures
    (omega (arith, c.place_of.ensures.inside, c.self.invariant.size)) (λ i. length c.self.inside.cells.items)
    ∙ ap (λ (k : ℕ). get_or c.self.inside.cells.items k None) c.place_of.ensures.place
    ∙ sym (cell_in c.self.inside.cells.items c.args.from.0 c.args.to.0 (omega (arith, count, c.requires.from, c.self.invariant.at_most)) (omega (arith, count, c.requires.to, c.self.invariant.at_most))) in
    seconds_at_most c.index.result.now (λ z some. c.self.invariant.range c.args.from.0 c.args.to.0 z (sym is ∙ some))
