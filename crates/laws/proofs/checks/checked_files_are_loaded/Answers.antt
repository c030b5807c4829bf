use Rattle.laws.proofs.CheckAndRun.{checked_is_loaded}
use Rattle.laws.proofs.checks.checked_files_are_loaded.Goals as goal

pub returns : goal.returns
returns c = checked_is_loaded
