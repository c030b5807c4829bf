use Rattle.std.proofs.Common.{rules, tests, ◌∙◌}
use Rattle.std.proofs.lemmas.Iterator.{YieldsList-from_slice}
use Rattle.std.proofs.lemmas.Iterator.Consumers.{YieldsList-from_filter, count_from_yields_List}
use Rattle.std.proofs.lemmas.List.Sums.{length-filter}
use Rattle.site_findings.specs.Text.{are_alike}
use Rattle.site_findings.proofs.alike.alike_in.Goals as goal

pub returns : goal.returns
returns c =
    count_from_yields_List c.filter.result _ c.count.ensures.ran
    (YieldsList-from_filter _ (λ f. are_alike c.args.finding.now f) (YieldsList-from_slice c.args.findings.now (cc))
    c.filter.ensures.closure (λ x b q k. search (rules, tests)))
    ∙ length-filter (λ f. are_alike c.args.finding.now f) c.args.findings.now
