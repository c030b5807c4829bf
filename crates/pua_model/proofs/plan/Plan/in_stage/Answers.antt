use Rattle.std.proofs.Common.{◌≡◌, ◌<◌, ◌-◌, length, get_or, map, [], ap, sym, arith, List, false}
use Rattle.std.proofs.lemmas.List.{length-map}
use Rattle.pua_model.proofs.Lists.{greens_at}
use Rattle.pua_model.specs.declared.parts.Stage.{Stage}
use Rattle.pua_model.proofs.plan.Plan.in_stage.Goals as goal

pub get-requires : goal.get-requires
get-requires c =
    let stages : List Stage = c.self.inside.stages.items in
    let lt : c.args.s.0 - 1 < length stages = omega (arith, c.requires.stage, ap (λ p. length p.stages) c.self.view_is, length-map stages (λ (s : Stage). s.greens)) in
    let here : get_or (map (λ (s : Stage). s.greens) stages) (c.args.s.0 - 1) [] ≡ c.index-stage.result.now.greens = greens_at stages (c.args.s.0 - 1) c.index-stage.result.now lt c.index-stage.ensures in
    omega (arith, c.self.invariant.0.stages (c.args.s.0 - 1) (omega (arith, lt, length-map stages (λ (s : Stage). s.greens))), ap length here, ap (λ p. length p.names) c.self.view_is)

pub returns : goal.returns
returns c =
    let stages : List Stage = c.self.inside.stages.items in
    let lt : c.args.s.0 - 1 < length stages = omega (arith, c.requires.stage, ap (λ p. length p.stages) c.self.view_is, length-map stages (λ (s : Stage). s.greens)) in
    let here : get_or (map (λ (s : Stage). s.greens) stages) (c.args.s.0 - 1) [] ≡ c.index-stage.result.now.greens = greens_at stages (c.args.s.0 - 1) c.index-stage.result.now lt c.index-stage.ensures in
    let whole : get_or (get_or c.args.self.now.stages (c.args.s.0 - 1) []) c.args.g.0 false ≡ c.get.result =
    rw (← c.self.view_is, here) (sym c.get.ensures) in
    sym whole
