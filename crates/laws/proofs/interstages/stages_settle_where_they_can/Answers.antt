use Rattle.laws.proofs.TrialsSettle.{bound_of_tables, settles_exactly}
use Rattle.laws.proofs.interstages.stages_settle_where_they_can.Goals as goal

pub returns-clause-bound : goal.returns-clause-bound
returns-clause-bound c = bound_of_tables

pub returns-clause-settles : goal.returns-clause-settles
returns-clause-settles c = settles_exactly
