use Rattle.laws.proofs.LiveLogs.{live_logs_are_read_whole, live_texts_are_read_whole}
use Rattle.laws.proofs.logs.live_logs_are_read_whole.Goals as goal

pub returns-clause-logs : goal.returns-clause-logs
returns-clause-logs c = live_logs_are_read_whole c.readings_keep_trees.ensures.parsed

pub returns-clause-texts : goal.returns-clause-texts
returns-clause-texts c = live_texts_are_read_whole c.readings_keep_trees.ensures.parsed
