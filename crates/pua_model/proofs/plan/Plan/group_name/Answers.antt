use Rattle.std.proofs.Common.{◌≡◌, ◌<◌, true, length, get_or, map, [], ap, arith, List}
use Rattle.std.proofs.lemmas.List.{length-map}
use Rattle.sig_types.specs.Text.{is_name}
use Rattle.pua_model.proofs.Lists.{name_in_plan, name_at, name_is_text}
use Rattle.pua_model.specs.declared.parts.Group.{Group}
use Rattle.pua_model.proofs.plan.Plan.group_name.Goals as goal

pub unreachable-requires : goal.unreachable-requires
unreachable-requires c =
    let groups : List Group = c.self.inside.groups.items in
    let lt : c.args.g.0 < length groups = omega (arith, ap (λ p. length p.names) c.self.view_is, length-map groups (λ (g : Group). g.name)) in
    let here : get_or (map (λ (g : Group). g.name) groups) c.args.g.0 [] ≡ c.index-group.result.now.name = name_in_plan groups c.args.g.0 c.index-group.result.now lt c.index-group.ensures in
    let named : is_name c.index-group.result.now.name ≡ true =
    rw (← here) (name_at (map (λ (g : Group). g.name) groups) c.args.g.0 c.self.invariant.0.names (omega (arith, lt, length-map groups (λ (g : Group). g.name)))) in
    c.in-Err.ensures.cases.0 (rw c.bytes.ensures.bytes (name_is_text c.index-group.result.now.name named))
