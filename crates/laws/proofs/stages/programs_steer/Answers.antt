use Rattle.laws.proofs.SteeringPrograms.{programs_steer, programs_show}
use Rattle.laws.proofs.stages.programs_steer.Goals as goal

pub returns-clause-steers : goal.returns-clause-steers
returns-clause-steers c = programs_steer

pub returns-clause-shows : goal.returns-clause-shows
returns-clause-shows c = programs_show
