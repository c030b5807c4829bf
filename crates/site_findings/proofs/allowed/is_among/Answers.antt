use Rattle.std.proofs.Common.{rules, tests}
use Rattle.std.proofs.lemmas.Iterator.Search.{any_from_yields_List}
use Rattle.std.proofs.lemmas.Iterator.Splits.{YieldsList-from_slice_split}
use Rattle.sig_types.specs.Text.{same_name}
use Rattle.site_findings.specs.Allowed.{parts_words}
use Rattle.site_findings.proofs.allowed.is_among.Goals as goal

pub returns : goal.returns
returns c =
    any_from_yields_List (λ w. same_name c.args.word.now w) c.any.new.self _ c.any.result c.any.ensures.ran
    (YieldsList-from_slice_split _ parts_words c.args.sentence.now c.split.ensures.rest c.split.ensures.done
    c.split.ensures.closure (λ x b q k. search (rules, tests, k.shows, k.called))) (λ x b q k. search (rules, tests))
