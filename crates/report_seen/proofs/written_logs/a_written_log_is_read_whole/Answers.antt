use Rattle.report_seen.proofs.LogsBack.{only_written_is_read, watcher_is_behind_log, written_is_read}
use Rattle.report_seen.proofs.written_logs.a_written_log_is_read_whole.Goals as goal

pub returns-clause-whole : goal.returns-clause-whole
returns-clause-whole c = written_is_read

pub returns-clause-alone : goal.returns-clause-alone
returns-clause-alone c = only_written_is_read

pub returns-clause-watched : goal.returns-clause-watched
returns-clause-watched c = watcher_is_behind_log
