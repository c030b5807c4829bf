use Rattle.std.proofs.Common.{◌≡◌, Global, length, map, string_bytes}
use Rattle.report_seen.specs.SumsForm.{csv_of}
use Rattle.report_seen.proofs.sums_form.csv_of.Given as goal

abbrev pub invariant-loop-rest : goal.invariant-loop-rest
invariant-loop-rest l = csv_of (map (string_bytes {Z = Global}) l.fn.words) ≡ csv_of (map (string_bytes {Z = Global}) l.rest)

abbrev pub decreases-loop-rest : goal.decreases-loop-rest
decreases-loop-rest l = length l.rest
