use Rattle.std.proofs.Common.{◌≡◌}
use Rattle.report_seen.specs.Look.{fine_to}
use Rattle.report_seen.proofs.look.is_all_fine.Given as goal

abbrev pub invariant-loop-place : goal.invariant-loop-place
invariant-loop-place l = l.fine ≡ fine_to l.title l.place
