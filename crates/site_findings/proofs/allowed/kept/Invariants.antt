use Rattle.std.proofs.Common.{◌≡◌, map}
use Rattle.std.specs.Prelude.{string_bytes}
use Rattle.site_findings.specs.Allowed.{allowed_in, kept}
use Rattle.site_findings.proofs.allowed.kept.Given as goal

abbrev pub invariant-loop-finding : goal.invariant-loop-finding
invariant-loop-finding l = l.told.items ≡ kept l.plan (allowed_in (map string_bytes l.words)) l.yielded
