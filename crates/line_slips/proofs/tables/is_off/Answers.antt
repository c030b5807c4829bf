use Rattle.std.proofs.Common.{◌≡◌, ◌==◌, ◌∙◌, Some, None, ap, rules, tests}
use Rattle.std.specs.List.{slice_get, slice_split}
use Rattle.std.proofs.lemmas.Iterator.Splits.{YieldsList-from_slice_split}
use Rattle.std.proofs.lemmas.Iterator.Consumers.{nth_from_yields_List}
use Rattle.line_slips.specs.TableSlips.{is_off}
use Rattle.line_slips.proofs.tables.is_off.Goals as goal

pub returns-in-Some : goal.returns-in-Some
returns-in-Some c =
    let at : Some c.in-Some.field.now ≡ slice_get (slice_split (λ b. b == 44) c.args.row.now) c.args.place =
    nth_from_yields_List (Some c.in-Some.field) c.nth.new.self c.args.place c.in-Some.ensures.ran
    (YieldsList-from_slice_split _ (λ b. b == 44) c.args.row.now c.split.ensures.rest
    c.split.ensures.done c.split.ensures.closure (λ x b q k. search (rules, tests, k.shows, k.called))) in
    let own : c.is_none.result ≡ is_off c.args.least c.args.most (Some c.in-Some.field.now) = search rules in
    own ∙ ap (is_off c.args.least c.args.most) at

pub returns-in-None : goal.returns-in-None
returns-in-None c =
    let at : None ≡ slice_get (slice_split (λ b. b == 44) c.args.row.now) c.args.place =
    nth_from_yields_List None c.nth.new.self c.args.place c.in-None.ensures.ran
    (YieldsList-from_slice_split _ (λ b. b == 44) c.args.row.now c.split.ensures.rest
    c.split.ensures.done c.split.ensures.closure (λ x b q k. search (rules, tests, k.shows, k.called))) in
    ap (is_off c.args.least c.args.most) at
