use Rattle.std.proofs.Common.{rules, tests}
use Rattle.std.proofs.lemmas.Iterator.Search.{any_from_yields_List}
use Rattle.std.proofs.lemmas.Iterator.Splits.{YieldsList-from_slice_split}
use Rattle.line_slips.specs.Bytes.{is_blank}
use Rattle.line_slips.specs.EntrySlips.{is_pair}
use Rattle.line_slips.proofs.stream.has_pair.Goals as goal

pub returns : goal.returns
returns c =
    any_from_yields_List is_pair c.any.new.self _ c.any.result c.any.ensures.ran
    (YieldsList-from_slice_split _ is_blank c.args.line.now c.split.ensures.rest c.split.ensures.done c.split.ensures.closure
    (λ x b q k. search (rules, tests, k.shows, k.called))) (λ x b q k. search (rules, tests))
