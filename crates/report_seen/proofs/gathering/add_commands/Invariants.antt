use Rattle.std.proofs.Common.{◌≡◌, ◌++◌, take}
use Rattle.report_seen.specs.Gathered.{commands_by}
use Rattle.report_seen.proofs.gathering.add_commands.Given as goal

abbrev pub invariant-loop-place : goal.invariant-loop-place
invariant-loop-place l = l.refusals.items ≡ l.fn.refusals.items ++ commands_by l.second (take l.place l.stages)
