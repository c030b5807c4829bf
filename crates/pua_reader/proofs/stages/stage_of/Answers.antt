use Rattle.std.proofs.Common.{Some, None, sym, ◌∙◌}
use Rattle.pua_reader.proofs.Named.{stage_named}
use Rattle.pua_reader.proofs.stages.stage_of.Goals as goal

pub returns-in-Some-place_of_stage : goal.returns-in-Some-place_of_stage
returns-in-Some-place_of_stage c =
    stage_named c.args.stages.now c.args.word.now (Some c.in-Some-place_of_stage.place) (sym c.is_number.ensures ∙ c.if-is_number.false)
    c.in-Some-place_of_stage.ensures

pub returns-in-None-place_of_stage : goal.returns-in-None-place_of_stage
returns-in-None-place_of_stage c =
    stage_named c.args.stages.now c.args.word.now None (sym c.is_number.ensures ∙ c.if-is_number.false) c.in-None-place_of_stage.ensures
