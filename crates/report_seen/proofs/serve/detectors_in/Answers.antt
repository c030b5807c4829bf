use Rattle.std.proofs.Common.{◌==◌, ◌∙◌, sym, ap, rules, tests}
use Rattle.std.proofs.lemmas.Iterator.Splits.{YieldsList-from_slice_split}
use Rattle.std.proofs.lemmas.Iterator.Consumers.{YieldsList-end, YieldsList-at}
use Rattle.report_seen.specs.Serves.{detector_items}
use Rattle.report_seen.proofs.serve.detectors_in.Goals as goal

pub returns-then-right-2 : goal.returns-then-right-2
returns-then-right-2 c =
    let all = YieldsList-end (YieldsList-at c.into_iter-word-iterator.ensures.into_iter_gives
    (YieldsList-from_slice_split _ (λ b. b == 44) c.args.text.now c.split-word-items.ensures.rest c.split-word-items.ensures.done
    c.split-word-items.ensures.closure (λ x b q k. search (rules, tests, k.shows, k.called))))
    c.loop-word.yielded c.loop-word.word-iterator c.loop-word.yielded_by c.next.result c.next.new.self c.in-None.is c.next.ensures.steps in
    sym (ap detector_items (sym all.0) ∙ c.loop-word.invariant.right c.if-right-2.true)

pub returns-else-right-2 : goal.returns-else-right-2
returns-else-right-2 c =
    let all = YieldsList-end (YieldsList-at c.into_iter-word-iterator.ensures.into_iter_gives
    (YieldsList-from_slice_split _ (λ b. b == 44) c.args.text.now c.split-word-items.ensures.rest c.split-word-items.ensures.done
    c.split-word-items.ensures.closure (λ x b q k. search (rules, tests, k.shows, k.called))))
    c.loop-word.yielded c.loop-word.word-iterator c.loop-word.yielded_by c.next.result c.next.new.self c.in-None.is c.next.ensures.steps in
    sym (ap detector_items (sym all.0) ∙ c.loop-word.invariant.wrong c.if-right-2.false)
