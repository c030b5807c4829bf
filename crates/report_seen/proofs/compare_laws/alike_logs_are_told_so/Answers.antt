use Rattle.report_seen.proofs.LogsAlike.{alike_is_told}
use Rattle.report_seen.proofs.compare_laws.alike_logs_are_told_so.Goals as goal

pub returns : goal.returns
returns c = alike_is_told
