use Rattle.std.proofs.Common.{◌∙◌, ◌+◌, ◌<◌, cond, length, sum_by, take, ap, arith}
use Rattle.std.proofs.lemmas.List.Sums.{sum_by_more}
use Rattle.std.proofs.lemmas.Option.{get_or_from_slice_get}
use Rattle.signal_log.specs.Summary.{is_rule}
use Rattle.signal_log.proofs.summary.add_stages.Goals as goal

pub loop-i-preserved : goal.loop-i-preserved
loop-i-preserved c = λ rule.
    let i = c.loop-i.i in
    let stages = c.args.stages.now in
    let lt : i < length stages = omega (arith, c.len-i-end.ensures.len) in
    let here = get_or_from_slice_get stages i c.get.result c.get.result c.get.ensures in
    let more = sum_by_more (λ s. cond (is_rule rule s.rule) 1 0) stages i c.get.result lt
    ∙ ap (λ s. sum_by (λ s. cond (is_rule rule s.rule) 1 0) (take i stages) + cond (is_rule rule s.rule) 1 0) here in
    omega (arith, c.add_refusal.ensures rule, c.loop-i.invariant rule, more)
