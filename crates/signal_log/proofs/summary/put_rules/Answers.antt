use Rattle.std.proofs.Common.{◌≡◌, ◌∙◌, ◌++◌, get_or, [], ap, arith, take}
use Rattle.std.specs.List.{flat_map}
use Rattle.sig_io.proofs.Drafts.{same_put, then}
use Rattle.sig_types.specs.declared.aspect.Rule.{Rule}
use Rattle.sig_types.specs.declared.aspect.Rule.TheVariants.{Sequence}
use Rattle.signal_log.specs.Log.{rule_name}
use Rattle.signal_log.specs.Summary.{tally, rules, kept_refusals}
use Rattle.signal_log.proofs.Tallies.{items_more}
use Rattle.signal_log.proofs.summary.put_rules.Goals as goal

pub loop-rule-preserved : goal.loop-rule-preserved
loop-rule-preserved g c =
    let at = c.loop-rule.rule-index in
    let tallied = λ (rule : Rule). tally (rule_name rule) (kept_refusals c.args.summary.now rule) in
    let here : tally c.rule_name.result.now c.refusals_by-count.result ≡ tallied (get_or rules at Sequence) =
    λ j. tally (c.rule_name.ensures.text j) (c.refusals_by-count.ensures j) in
    same_put (ap (λ t. flat_map tallied (take at rules) ++ t) here ∙ items_more tallied at rules Sequence [] (omega arith)) (then c.loop-rule.invariant c.put_tally.ensures)
