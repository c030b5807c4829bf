use Rattle.std.proofs.Common.{ℕ, ◌==◌, List, map, ap, ◌∙◌, rules, tests}
use Rattle.std.proofs.lemmas.Iterator.Splits.{YieldsList-from_slice_split}
use Rattle.std.proofs.lemmas.Iterator.Consumers.{YieldsList-end, YieldsList-at}
use Rattle.std.specs.Str.Lines.{strip_carriage_return}
use Rattle.table_check.proofs.lines.lines_in.Goals as goal

pub returns : goal.returns
returns c =
    let all = YieldsList-end (YieldsList-at c.into_iter-line-iterator.ensures.into_iter_gives
    (YieldsList-from_slice_split _ (λ b. b == 10) c.args.text.now c.split-line-items.ensures.rest c.split-line-items.ensures.done
    c.split-line-items.ensures.closure (λ x b q k. search (rules, tests, k.shows, k.called)))) c.loop-line.yielded c.loop-line.line-iterator
    c.loop-line.yielded_by c.next.result c.next.new.self c.in-None.is c.next.ensures.steps in
    c.loop-line.invariant ∙ ap (λ (l : List (List ℕ)). map strip_carriage_return l) all.0
