use Rattle.std.proofs.Common.{◌≡◌, take}
use Rattle.report_seen.specs.Lost.{last_of}
use Rattle.report_seen.proofs.lost.last_of.Given as goal

abbrev pub invariant-loop-place : goal.invariant-loop-place
invariant-loop-place l = l.last ≡ last_of l.group (take l.place l.turns)
