use Rattle.std.proofs.Common.{◌≡◌, ◌<◌, ◌∙◌, None, List, length, get_or, sym, ap, arith, pos}
use Rattle.std.proofs.lemmas.Int.{ints, to_z-of_z}
use mir.Val.{SFits}
use mir.Syntax.{w32}
use Rattle.std.specs.Prelude.{◌≤ℤ◌, ◌<ℤ◌, unsigned_abs}
use Rattle.pua_model.specs.Plan.{group_number, groups_in}
use Rattle.pua_model.specs.declared.parts.Group.{Group}
use Rattle.std.proofs.lemmas.List.{length-map}
use Rattle.pua_model.proofs.Lists.{group_of_negative, group_of_great, place_by_number, place_below}
use Rattle.pua_model.proofs.plan.Plan.find_group.Goals.{then-number-lt0-via-then-number-lt0, then-number-lt0-via-else-number-lt0+then-number-gt255}
use Rattle.pua_model.proofs.plan.Plan.find_group.Goals as goal

pub returns-then-number-lt0-clause-found : goal.returns-then-number-lt0-clause-found
returns-then-number-lt0-clause-found c =
    elim c.then-number-lt0.branch [
      | then-number-lt0-via-then-number-lt0 w ↦
          let below : c.args.number <ℤ pos 0 = omega (arith, ints, w.if-number-lt0.true) in
          sym (group_of_negative c.args.self.now c.args.number below)
      | then-number-lt0-via-else-number-lt0+then-number-gt255 w ↦
          let above : pos 255 <ℤ c.args.number = omega (arith, ints, w.if-number-gt255.true) in
          sym (group_of_great c.args.self.now c.args.number (rw (ap (λ p. p.numbers) c.self.view_is) at c.self.invariant.0.rising) above)
    ]

pub returns-clause-found : goal.returns-clause-found
returns-clause-found c =
    let above : pos 0 ≤ℤ c.args.number = omega (arith, ints, c.if-number-lt0.false) in
    let fits : SFits w32 c.args.number = c.ranges.number in
    let size : c.unsigned_abs.result ≡ unsigned_abs c.args.number = simp to_z-of_z at c.unsigned_abs.ensures.value in
    let inside : c.unsigned_abs.result < 256 = omega (arith, ints, size, above, c.if-number-gt255.false) in
    place_by_number c.args.self.now c.self.inside.groups.items c.args.number c.unsigned_abs.result (group_number (get_or c.self.inside.places c.unsigned_abs.result None)) above size
    (ap (λ p. p.numbers) c.self.view_is) (c.self.invariant.1.each c.unsigned_abs.result inside)

pub returns-clause-below : goal.returns-clause-below
returns-clause-below c =
    let above : pos 0 ≤ℤ c.args.number = omega (arith, ints, c.if-number-lt0.false) in
    let fits : SFits w32 c.args.number = c.ranges.number in
    let size : c.unsigned_abs.result ≡ unsigned_abs c.args.number = simp to_z-of_z at c.unsigned_abs.ensures.value in
    let inside : c.unsigned_abs.result < 256 = omega (arith, ints, size, above, c.if-number-gt255.false) in
    let groups : List Group = c.self.inside.groups.items in
    place_below (get_or c.self.inside.places c.unsigned_abs.result None) groups c.unsigned_abs.result (groups_in c.args.self.now) (c.self.invariant.1.each c.unsigned_abs.result inside)
    (sym (length-map groups (λ (g : Group). g.name)) ∙ ap (λ p. length p.names) c.self.view_is)
