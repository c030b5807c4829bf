use Rattle.std.proofs.Common.{◌∙◌, ◌+◌, ◌<◌, cond, length, sum_by, take, ap, arith}
use Rattle.std.proofs.lemmas.List.Sums.{sum_by_more}
use Rattle.std.proofs.lemmas.Option.{get_or_from_slice_get}
use Rattle.signal_log.specs.Summary.{is_rule}
use Rattle.signal_log.proofs.summary.add_turns.Goals as goal

pub loop-i-preserved : goal.loop-i-preserved
loop-i-preserved c = λ rule.
    let i = c.loop-i.i in
    let turns = c.args.turns.now in
    let lt : i < length turns = omega (arith, c.len-i-end.ensures.len) in
    let here = get_or_from_slice_get turns i c.get.result c.get.result c.get.ensures in
    let more = sum_by_more (λ t. cond (is_rule rule t.rule) 1 0) turns i c.get.result lt
    ∙ ap (λ t. sum_by (λ t. cond (is_rule rule t.rule) 1 0) (take i turns) + cond (is_rule rule t.rule) 1 0) here in
    omega (arith, c.add_refusal.ensures rule, c.loop-i.invariant rule, more)
