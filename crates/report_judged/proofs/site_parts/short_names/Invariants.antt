use Rattle.std.proofs.Common.{◌≡◌, map, take}
use Rattle.report_judged.specs.SiteParts.{short_names}
use Rattle.report_judged.proofs.site_parts.short_names.Given as goal

abbrev pub invariant-loop-word : goal.invariant-loop-word
invariant-loop-word l = l.names.items ≡ short_names (map (λ w. w.items) (take l.word-index l.words))
