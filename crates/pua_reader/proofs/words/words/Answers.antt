use Rattle.std.proofs.Common.{ℕ, ◌==◌, not, List, length, ap, ◌∙◌, rules, tests}
use Rattle.std.proofs.lemmas.Iterator.Splits.{YieldsList-from_slice_split}
use Rattle.std.proofs.lemmas.Iterator.Consumers.{YieldsList-end, YieldsList-at}
use Rattle.std.specs.List.{filter}
use Rattle.pua_reader.specs.Words.{words, parts}
use Rattle.pua_reader.proofs.words.words.Goals as goal

pub returns : goal.returns
unfolding words
returns c =
    let all = YieldsList-end (YieldsList-at c.into_iter-word-iterator.ensures.into_iter_gives
    (YieldsList-from_slice_split _ (parts c.args.keys) c.args.line.now c.split-word-items.ensures.rest c.split-word-items.ensures.done
    c.split-word-items.ensures.closure (λ x b q k. search (rules, tests, k.shows, k.called)))) c.loop-word.yielded c.loop-word.word-iterator
    c.loop-word.yielded_by c.next.result c.next.new.self c.in-None.is c.next.ensures.steps in
    c.loop-word.invariant ∙ ap (λ (l : List (List ℕ)). filter (λ w. not (length w == 0)) l) all.0
