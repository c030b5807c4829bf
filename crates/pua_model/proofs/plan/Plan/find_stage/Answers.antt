use Rattle.std.proofs.Common.{◌≡◌, ◌≤◌, sym, ap, arith, length}
use Rattle.std.proofs.lemmas.Int.{to_z-of_z}
use Rattle.std.proofs.lemmas.List.{length-map}
use Rattle.pua_model.specs.declared.parts.Stage.{Stage}
use mir.Val.{SFits, of_z}
use mir.Syntax.{w32}
use Rattle.pua_model.proofs.Lists.{stage_in_place}
use Rattle.pua_model.proofs.plan.Plan.find_stage.Goals as goal

pub returns-then-wanted-len-clause-found : goal.returns-then-wanted-len-clause-found
returns-then-wanted-len-clause-found c =
    let fits : SFits w32 c.args.number = c.ranges.number in
    let bits : c.cast_unsigned-wanted.result ≡ of_z w32 c.args.number = simp to_z-of_z at c.cast_unsigned-wanted.ensures in
    let stages = length-map c.self.inside.stages.items (λ (s : Stage). s.greens) in
    let few : length c.args.self.now.stages ≤ 32 = omega (arith, c.self.invariant.0.stages_at_most, ap (λ p. length p.stages) c.self.view_is) in
    let found = stage_in_place c.args.self.now c.args.number c.cast_unsigned-wanted.result fits bits c.cast_unsigned-wanted.type_inv few in
    sym (found.0 (omega (arith, c.if-wanted-len.true, c.len.ensures, ap (λ p. length p.stages) c.self.view_is, stages)))

pub returns-else-wanted-len-clause-found : goal.returns-else-wanted-len-clause-found
returns-else-wanted-len-clause-found c =
    let fits : SFits w32 c.args.number = c.ranges.number in
    let bits : c.cast_unsigned-wanted.result ≡ of_z w32 c.args.number = simp to_z-of_z at c.cast_unsigned-wanted.ensures in
    let stages = length-map c.self.inside.stages.items (λ (s : Stage). s.greens) in
    let few : length c.args.self.now.stages ≤ 32 = omega (arith, c.self.invariant.0.stages_at_most, ap (λ p. length p.stages) c.self.view_is) in
    let found = stage_in_place c.args.self.now c.args.number c.cast_unsigned-wanted.result fits bits c.cast_unsigned-wanted.type_inv few in
    sym (found.1 (omega (arith, c.if-wanted-len.false, c.len.ensures, ap (λ p. length p.stages) c.self.view_is, stages)))
