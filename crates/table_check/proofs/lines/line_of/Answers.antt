use Rattle.std.proofs.Common.{◌≡◌, ◌==◌, ◌-◌, ◌∙◌, Some, None, rules, tests}
use Rattle.std.specs.Str.Lines.{strip_carriage_return}
use Rattle.std.specs.List.{slice_get, slice_split}
use Rattle.std.proofs.lemmas.Iterator.Splits.{YieldsList-from_slice_split}
use Rattle.std.proofs.lemmas.Iterator.Consumers.{nth_from_yields_List}
use Rattle.table_check.specs.Lines.{lines_of}
use Rattle.table_check.proofs.Numbered.{get_or-changed, get_or-changed_none, numbered-at}
use Rattle.table_check.proofs.lines.line_of.Goals as goal

pub returns-in-Some : goal.returns-in-Some
returns-in-Some c =
    let at : Some c.in-Some.line.now ≡ slice_get (slice_split (λ b. b == 10) c.args.text.now) (c.args.wanted - 1) =
    nth_from_yields_List (Some c.in-Some.line) c.nth.new.self (c.args.wanted - 1) c.in-Some.ensures.ran
    (YieldsList-from_slice_split _ (λ b. b == 10) c.args.text.now c.split.ensures.rest
    c.split.ensures.done c.split.ensures.closure (λ x b q k. search (rules, tests, k.shows, k.called))) in
    numbered-at (lines_of c.args.text.now) c.args.wanted _ c.if-wanted-eq0.false
    (c.without_return.ensures ∙ get_or-changed strip_carriage_return _ (c.args.wanted - 1) _ at)

pub returns-in-None : goal.returns-in-None
returns-in-None c =
    let at : None ≡ slice_get (slice_split (λ b. b == 10) c.args.text.now) (c.args.wanted - 1) =
    nth_from_yields_List None c.nth.new.self (c.args.wanted - 1) c.in-None.ensures.ran
    (YieldsList-from_slice_split _ (λ b. b == 10) c.args.text.now c.split.ensures.rest
    c.split.ensures.done c.split.ensures.closure (λ x b q k. search (rules, tests, k.shows, k.called))) in
    numbered-at (lines_of c.args.text.now) c.args.wanted _ c.if-wanted-eq0.false
    (get_or-changed_none strip_carriage_return _ (c.args.wanted - 1) at)
