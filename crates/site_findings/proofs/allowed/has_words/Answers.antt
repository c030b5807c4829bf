use Rattle.std.proofs.Common.{◌==◌, rules, tests}
use Rattle.std.proofs.lemmas.Iterator.Search.{all_from_yields_List}
use Rattle.std.proofs.lemmas.Iterator.Splits.{YieldsList-from_slice_split}
use Rattle.site_findings.specs.Allowed.{has_word}
use Rattle.site_findings.proofs.allowed.has_words.Goals as goal

pub returns : goal.returns
returns c =
    all_from_yields_List (λ word. has_word c.args.sentence.now word) c.all.new.self _ c.all.result c.all.ensures.ran
    (YieldsList-from_slice_split _ (λ b. b == 44) c.args.subject.now c.split.ensures.rest c.split.ensures.done
    c.split.ensures.closure (λ x b q k. search (rules, tests, k.shows, k.called))) (λ x b q k. search (rules, tests))
