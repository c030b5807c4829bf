use Rattle.junction_calls.proofs.DriveRuns.{loaded_drives_are_guarded}
use Rattle.junction_calls.proofs.laws.loaded_drives_are_guarded.Goals as goal

pub returns : goal.returns
returns c = loaded_drives_are_guarded
