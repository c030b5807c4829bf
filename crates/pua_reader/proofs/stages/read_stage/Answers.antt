use Rattle.pua_reader.proofs.Texts.{texts}
use Rattle.pua_reader.proofs.KeepStages.{stage_name_length}
use Rattle.pua_reader.proofs.stages.read_stage.Goals as goal

pub of-requires-clause-not_empty : goal.of-requires-clause-not_empty
of-requires-clause-not_empty c = (stage_name_length c.args.groups.now c.deref-2.result.now c.in-Some.name.now.now (texts c.in-Some.named.now)
    c.in_ok-stage_stop.ensures).0

pub of-requires-clause-at_most : goal.of-requires-clause-at_most
of-requires-clause-at_most c = (stage_name_length c.args.groups.now c.deref-2.result.now c.in-Some.name.now.now (texts c.in-Some.named.now)
    c.in_ok-stage_stop.ensures).1
