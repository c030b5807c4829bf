use Rattle.signal_log.proofs.LogLaws.{log_counts, log_spells}
use Rattle.signal_log.proofs.laws.log_tells_frames.Goals as goal

pub returns-clause-seconds : goal.returns-clause-seconds
returns-clause-seconds c = log_counts

pub returns-clause-frames : goal.returns-clause-frames
returns-clause-frames c = log_spells
