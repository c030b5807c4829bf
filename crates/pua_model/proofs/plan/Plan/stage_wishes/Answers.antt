use Rattle.std.proofs.Common.{◌≡◌, ◌<◌, ◌-◌, length, get_or, map, [], ap, sym, arith, List, false}
use Rattle.std.proofs.lemmas.List.{length-map}
use Rattle.pua_model.proofs.Lists.{greens_at}
use Rattle.pua_model.specs.declared.parts.Stage.{Stage}
use Rattle.pua_model.proofs.plan.Plan.stage_wishes.Goals as goal

pub returns-clause-groups : goal.returns-clause-groups
returns-clause-groups c =
    let stages : List Stage = c.self.inside.stages.items in
    let lt : c.args.s.0 - 1 < length stages = omega (arith, c.requires, ap (λ p. length p.stages) c.self.view_is, length-map stages (λ (s : Stage). s.greens)) in
    let here : get_or (map (λ (s : Stage). s.greens) stages) (c.args.s.0 - 1) [] ≡ c.index-stage.result.now.greens = greens_at stages (c.args.s.0 - 1) c.index-stage.result.now lt c.index-stage.ensures in
    omega (arith, c.self.invariant.0.stages (c.args.s.0 - 1) (omega (arith, lt, length-map stages (λ (s : Stage). s.greens))), ap length here, ap (λ p. length p.names) c.self.view_is, ap length c.copy.ensures)

pub returns-clause-wishes : goal.returns-clause-wishes
returns-clause-wishes c = λ g below.
    let stages : List Stage = c.self.inside.stages.items in
    let lt : c.args.s.0 - 1 < length stages = omega (arith, c.requires, ap (λ p. length p.stages) c.self.view_is, length-map stages (λ (s : Stage). s.greens)) in
    let here : get_or (map (λ (s : Stage). s.greens) stages) (c.args.s.0 - 1) [] ≡ c.index-stage.result.now.greens = greens_at stages (c.args.s.0 - 1) c.index-stage.result.now lt c.index-stage.ensures in
    let whole : get_or (get_or c.args.self.now.stages (c.args.s.0 - 1) []) g false ≡ get_or c.copy.result g false =
    rw (← c.self.view_is, here) (ap (λ l. get_or l g false) (sym c.copy.ensures)) in
    sym whole
