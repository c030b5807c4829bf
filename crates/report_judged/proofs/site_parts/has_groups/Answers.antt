use Rattle.std.proofs.Common.{◌≡◌, ◌∙◌, ◌<◌, ℕ, List, [], length, get_or, sym, arith, rules}
use Rattle.std.proofs.lemmas.List.{get_or_default}
use Rattle.report_judged.proofs.SiteMore.{same_more}
use Rattle.report_judged.proofs.site_parts.has_groups.Goals as goal

pub loop-place-preserved : goal.loop-place-preserved
loop-place-preserved c =
    let n = c.loop-place.place in
    let names : List (List ℕ) = c.args.names.now in
    let groups : List (List ℕ) = c.args.plan.now.names in
    let within : n < length groups = omega arith in
    let name : c.bytes.result.now ≡ get_or names n [] = c.bytes.ensures.bytes ∙ c.index-names-place.is ∙ get_or_default names n _ [] c.loop-place-test.true in
    let same : c.bytes.result.now ≡ c.as_bytes.result.now = search rules in
    same_more names groups n [] c.loop-place-test.true within c.loop-place.invariant
    (sym name ∙ same ∙ c.as_bytes.ensures.value ∙ c.group_name.ensures.name)
