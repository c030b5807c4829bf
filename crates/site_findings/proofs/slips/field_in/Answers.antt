use Rattle.std.proofs.Common.{◌≡◌, ◌==◌, Some, None, [], rules, sym, tests}
use Rattle.std.specs.List.{slice_get, slice_split}
use Rattle.std.proofs.lemmas.Iterator.Splits.{YieldsList-from_slice_split}
use Rattle.std.proofs.lemmas.Iterator.Consumers.{nth_from_yields_List}
use Rattle.std.proofs.lemmas.Option.{get_or_from_slice_get}
use Rattle.table_check.proofs.Numbered.{get_or-none}
use Rattle.site_findings.proofs.slips.field_in.Goals as goal

pub returns-in-Some : goal.returns-in-Some
returns-in-Some c =
    let at : Some c.in-Some.field.now ≡ slice_get (slice_split (λ b. b == 44) c.args.row.now) c.args.place =
    nth_from_yields_List (Some c.in-Some.field) c.nth.new.self c.args.place c.in-Some.ensures.ran
    (YieldsList-from_slice_split _ (λ b. b == 44) c.args.row.now c.split.ensures.rest
    c.split.ensures.done c.split.ensures.closure (λ x b q k. search (rules, tests, k.shows, k.called))) in
    sym (get_or_from_slice_get _ c.args.place c.in-Some.field.now [] (sym at))

pub returns-in-None : goal.returns-in-None
returns-in-None c =
    let at : None ≡ slice_get (slice_split (λ b. b == 44) c.args.row.now) c.args.place =
    nth_from_yields_List None c.nth.new.self c.args.place c.in-None.ensures.ran
    (YieldsList-from_slice_split _ (λ b. b == 44) c.args.row.now c.split.ensures.rest
    c.split.ensures.done c.split.ensures.closure (λ x b q k. search (rules, tests, k.shows, k.called))) in
    get_or-none _ c.args.place at
