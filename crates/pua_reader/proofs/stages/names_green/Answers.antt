use Rattle.std.proofs.Common.{◌≡◌, Bool, List, length, sym, ap, ◌∙◌, arith}
use Rattle.std.proofs.lemmas.Bool.{eqb-true}
use Rattle.std.specs.List.{list_any}
use Rattle.pua_reader.specs.Stages.{is_green_in, last_greens}
use Rattle.pua_reader.proofs.Named.{none_green, last_is, some_left}
use Rattle.pua_reader.proofs.Texts.{any_texts, texts}
use Rattle.pua_reader.proofs.stages.names_green.Goals as goal

pub any_green-requires-clause-greens : goal.any_green-requires-clause-greens
any_green-requires-clause-greens c =
    let ne = some_left (length c.args.stages.now) c.if-is_empty.ensures in
    let last : last_greens c.args.stages.now ≡ c.index-stages-stages.result.greens =
    last_is c.args.stages.now c.index-stages-stages.result ne c.index-stages-stages.is in
    omega (arith, c.requires.greens ne, ap length last)

pub returns-then-is_empty : goal.returns-then-is_empty
returns-then-is_empty c =
    none_green c.args.groups.now c.args.stages.now (texts c.args.named.now) (eqb-true (length c.args.stages.now) 0 (sym c.if-is_empty.ensures))

pub returns : goal.returns
returns c =
    let ne = some_left (length c.args.stages.now) c.if-is_empty.ensures in
    let last : last_greens c.args.stages.now ≡ c.index-stages-stages.result.greens =
    last_is c.args.stages.now c.index-stages-stages.result ne c.index-stages-stages.is in
    c.any_green.ensures ∙ sym (any_texts (is_green_in c.args.groups.now c.index-stages-stages.result.greens) c.args.named.now)
    ∙ ap (λ (gs : List Bool). list_any (is_green_in c.args.groups.now gs) (texts c.args.named.now)) (sym last)
