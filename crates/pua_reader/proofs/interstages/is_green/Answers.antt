use Rattle.std.proofs.Common.{◌≡◌, ◌-◌, ◌<◌, false, [], length, get_or, sym, ap, ◌∙◌, arith}
use Rattle.std.proofs.lemmas.List.{get_or_default}
use Rattle.pua_model.specs.declared.parts.Stage.{Stage}
use Rattle.pua_reader.proofs.interstages.is_green.Goals as goal

pub get-requires : goal.get-requires
get-requires c =
    let lt : c.args.stage.0 - 1 < length c.args.stages.now = omega arith in
    let same : get_or c.args.stages.now (c.args.stage.0 - 1) (record { name = []; greens = [] }) ≡ c.index-stages-from.result =
    get_or_default c.args.stages.now (c.args.stage.0 - 1) (record { name = []; greens = [] }) c.index-stages-from.result lt ∙
    sym (rw c.from.ensures at c.index-stages-from.is) in
    omega (arith, c.requires.greens (c.args.stage.0 - 1) lt, ap (λ (s : Stage). length s.greens) same)

pub returns : goal.returns
returns c =
    let lt : c.args.stage.0 - 1 < length c.args.stages.now = omega arith in
    let same : get_or c.args.stages.now (c.args.stage.0 - 1) (record { name = []; greens = [] }) ≡ c.index-stages-from.result =
    get_or_default c.args.stages.now (c.args.stage.0 - 1) (record { name = []; greens = [] }) c.index-stages-from.result lt ∙
    sym (rw c.from.ensures at c.index-stages-from.is) in
    sym (ap (λ (s : Stage). get_or s.greens c.args.group false) same ∙ sym c.get.ensures)
