use Rattle.std.proofs.Common.{◌≡◌, ◌∙◌, refl, true, rules, arith}
use Rattle.tenth_records.specs.Parts.{is_known}
use Rattle.tenth_report.proofs.Paging.{ended}
use Rattle.tenth_report.proofs.pages.Pages.end_part.Goals as goal

pub add-requires-clause-few : goal.add-requires-clause-few
add-requires-clause-few c = omega (arith, c.requires.of.page, c.requires.of.few)

pub add-requires-clause-room : goal.add-requires-clause-room
add-requires-clause-room c =
    let lit : is_known c.args.self.now.shown ≡ true = search rules in
    omega (arith, c.requires.inside lit)

pub returns-in-Ok-clause-gathered : goal.returns-in-Ok-clause-gathered
returns-in-Ok-clause-gathered c = λ all rest h.
    let lit : is_known c.args.self.now.shown ≡ true = search rules in
    ended c.args.self.now _ lit refl (c.in-Ok.ensures.groups ∙ c.requires.of.count) refl c.requires.few c.in-Ok.ensures.page c.add.ensures all rest h
