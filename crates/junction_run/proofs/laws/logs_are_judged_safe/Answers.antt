use Rattle.junction_run.proofs.SafeLogs.{audits_say_safe, loaded_runs_are_within_limits, written_logs_are_judged_safe}
use Rattle.junction_run.proofs.laws.logs_are_judged_safe.Goals as goal

pub returns-clause-loaded : goal.returns-clause-loaded
returns-clause-loaded c = loaded_runs_are_within_limits

pub returns-clause-written : goal.returns-clause-written
returns-clause-written c = written_logs_are_judged_safe

pub returns-clause-audited : goal.returns-clause-audited
returns-clause-audited c = audits_say_safe
