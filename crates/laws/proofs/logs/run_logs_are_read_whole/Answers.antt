use Rattle.laws.proofs.WrittenLogs.{loaded_runs_are_logged, written_logs_are_read_whole}
use Rattle.laws.proofs.logs.run_logs_are_read_whole.Goals as goal

pub returns-clause-loaded : goal.returns-clause-loaded
returns-clause-loaded c = loaded_runs_are_logged c.readings_keep_trees.ensures.parsed

pub returns-clause-written : goal.returns-clause-written
returns-clause-written c = written_logs_are_read_whole c.readings_keep_trees.ensures.parsed
