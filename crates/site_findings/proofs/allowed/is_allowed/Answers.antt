use Rattle.std.proofs.Common.{List, ℕ, ap, sym, ◌∙◌}
use Rattle.std.specs.Prelude.{string_bytes}
use Rattle.site_findings.specs.Allowed.{is_allowed}
use Rattle.site_findings.proofs.AllowedMore.{none_allowed}
use Rattle.site_findings.proofs.allowed.is_allowed.Goals as goal

pub returns : goal.returns
returns c =
    sym (c.loop-rest.invariant ∙ ap (λ (texts : List (List ℕ)). is_allowed texts c.args.name.now c.args.sentence.now)
    (none_allowed string_bytes c.loop-rest.rest.now c.in_default.len_below))
