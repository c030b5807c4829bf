use Rattle.std.proofs.Common.{◌∙◌, ap, cond, min, reverse, rules, tests}
use Rattle.std.specs.Prelude.{filter}
use Rattle.std.specs.Iterator.Adapters.{filter_callee}
use Rattle.std.proofs.Math.Nat.{min_comm}
use Rattle.std.proofs.lemmas.Iterator.{YieldsList-from_take}
use Rattle.std.proofs.lemmas.Iterator.Adapters.{YieldsList-from_rev_slice}
use Rattle.std.proofs.lemmas.Iterator.Consumers.{YieldsList-from_filter, count_from_yields_List}
use Rattle.std.proofs.lemmas.List.{length-take}
use Rattle.std.proofs.lemmas.List.Sorted.{IsPermutation-reverse, sum_by-IsPermutation}
use Rattle.std.proofs.lemmas.List.Sums.{length-filter}
use Rattle.site_findings.specs.declared.finding.Finding.{Finding}
use Rattle.site_findings.specs.Text.{alike_in, are_alike}
use Rattle.site_findings.proofs.alike.alike_before.Goals as goal

pub returns : goal.returns
returns c =
    let fs = c.args.findings.now in
    let p = λ (f : Finding). are_alike c.args.finding.now f in
    count_from_yields_List c.take.result _ c.count.ensures.ran
    (YieldsList-from_take 9 (YieldsList-from_filter _ p (YieldsList-from_rev_slice fs (cc))
    (ap filter_callee c.take.ensures.source ∙ c.filter.ensures.closure) (λ x b q k. search (rules, tests))) (cc))
    ∙ (length-take 9 (filter p (reverse fs))
    ∙ (ap (min 9) (length-filter p (reverse fs)
    ∙ sum_by-IsPermutation (λ f. cond (p f) 1 0) fs (reverse fs) (IsPermutation-reverse fs))
    ∙ min_comm 9 (alike_in c.args.finding.now fs)))
