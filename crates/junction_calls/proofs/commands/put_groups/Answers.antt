use Rattle.std.proofs.Common.{◌≡◌, ◌≤◌, ◌∙◌, true, false, refl, sym, arith}
use Rattle.pua_model.specs.Plan.{groups_in}
use Rattle.junction_calls.specs.Given.{sum_below}
use Rattle.junction_calls.proofs.Sums.{given_by_sum, wishes_by_sum}
use Rattle.junction_calls.proofs.commands.put_groups.Goals as goal

-- src/commands.rt:164:1
pub returns-then-are_wishes-2-clause-named : goal.returns-then-are_wishes-2-clause-named
returns-then-are_wishes-2-clause-named c =
    let all : c.loop-place.place ≡ groups_in c.args.plan.now =
    omega (arith, c.loop-place-test.false, c.loop-place.auto.place-end, c.groups-place-end.ensures) in
    let fits : c.loop-place.place ≤ 64 = omega (arith, all, c.groups-place-end.ensures) in
    wishes_by_sum c.args.plan.now c.args.groups.now c.loop-place.place c.loop-place.sum c.sum_of.result true all fits
    (sym c.if-are_wishes-2.true ∙ c.loop-place.invariant.wishes) c.loop-place.invariant.sum c.sum_of.ensures

-- src/commands.rt:164:1
pub returns-then-are_wishes-2-clause-given : goal.returns-then-are_wishes-2-clause-given
returns-then-are_wishes-2-clause-given c = λ same.
    let fits : c.loop-place.place ≤ 64 =
    omega (arith, c.loop-place-test.false, c.loop-place.auto.place-end, c.groups-place-end.ensures) in
    given_by_sum c.args.commands.now c.loop-place.commands c.args.groups.now c.loop-place.place c.loop-place.sum c.sum_of.result fits
    c.loop-place.invariant.sum c.sum_of.ensures same (c.loop-place.invariant.given c.if-are_wishes-2.true)

-- src/commands.rt:164:1
pub returns-else-are_wishes-2-clause-named : goal.returns-else-are_wishes-2-clause-named
returns-else-are_wishes-2-clause-named c =
    let all : c.loop-place.place ≡ groups_in c.args.plan.now =
    omega (arith, c.loop-place-test.false, c.loop-place.auto.place-end, c.groups-place-end.ensures) in
    let fits : c.loop-place.place ≤ 64 = omega (arith, all, c.groups-place-end.ensures) in
    c.if-are_wishes-2.false ∙
    wishes_by_sum c.args.plan.now c.args.groups.now c.loop-place.place c.loop-place.sum (sum_below c.args.groups.now 64) false all fits
    (sym c.if-are_wishes-2.false ∙ c.loop-place.invariant.wishes) c.loop-place.invariant.sum refl
