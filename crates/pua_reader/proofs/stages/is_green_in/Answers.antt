use Rattle.std.proofs.Common.{[], sym, ap, ◌∙◌, arith}
use Rattle.std.proofs.lemmas.List.Quantifiers.{position-Some}
use Rattle.sig_types.specs.Text.{same_name}
use Rattle.pua_model.specs.declared.parts.Group.{Group}
use Rattle.pua_reader.specs.Stages.{green_at}
use Rattle.pua_reader.proofs.stages.is_green_in.Goals as goal

pub overflow_cast-place : goal.overflow_cast-place
overflow_cast-place c =
    let found = position-Some (λ (g : Group). same_name g.name c.args.name.now) c.args.groups.now c.in-Some.place (record { name = []; number = 0 })
    (sym c.in-Some.ensures) in
    omega (arith, found.0)

pub get-requires : goal.get-requires
get-requires c =
    let found = position-Some (λ (g : Group). same_name g.name c.args.name.now) c.args.groups.now c.in-Some.place (record { name = []; number = 0 })
    (sym c.in-Some.ensures) in
    omega (arith, found.0)

pub returns-in-Some : goal.returns-in-Some
returns-in-Some c = c.get.ensures ∙ ap (green_at c.args.greens.now) c.in-Some.ensures
