use Rattle.std.proofs.Common.{◌≡◌, take}
use Rattle.report_judged.proofs.site_parts.has_groups.Given as goal

abbrev pub invariant-loop-place : goal.invariant-loop-place
invariant-loop-place l = take l.place l.names ≡ take l.place l.plan.names
