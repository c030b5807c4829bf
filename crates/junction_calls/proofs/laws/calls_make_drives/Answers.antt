use Rattle.junction_calls.proofs.DriveRuns.{calls_make_drives}
use Rattle.junction_calls.proofs.laws.calls_make_drives.Goals as goal

pub returns : goal.returns
returns c = λ d past calls now stands are. calls_make_drives calls d past now stands are
