use Rattle.std.proofs.Common.{◌≡◌, length, map}
use Rattle.std.specs.Prelude.{string_bytes}
use Rattle.site_findings.specs.Allowed.{allowed_in, is_allowed}
use Rattle.site_findings.proofs.allowed.is_allowed.Given as goal

abbrev pub invariant-loop-rest : goal.invariant-loop-rest
invariant-loop-rest l =
    is_allowed (allowed_in (map string_bytes l.words)) l.name l.sentence ≡ is_allowed (allowed_in (map string_bytes l.rest)) l.name l.sentence

abbrev pub decreases-loop-rest : goal.decreases-loop-rest
decreases-loop-rest l = length l.rest
