use Rattle.trace_told.proofs.EndsSeen.{commands_are_seen}
use Rattle.trace_told.proofs.end_laws.commands_are_seen.Goals as goal

pub returns : goal.returns
returns c = commands_are_seen
