use Rattle.junction_calls.proofs.CallRuns.{calls_make_runs}
use Rattle.junction_calls.proofs.laws.calls_make_runs.Goals as goal

pub returns : goal.returns
returns c = λ d past calls now stands are. calls_make_runs calls d past now stands are
