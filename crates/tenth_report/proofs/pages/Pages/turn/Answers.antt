use Rattle.std.proofs.Common.{◌≡◌, [], false, true, refl, rules}
use Rattle.tenth_records.specs.Parts.{is_known, parts_in}
use Rattle.tenth_report.proofs.Paging.{turned_dark, turned_lit, went_dark}
use Rattle.tenth_report.proofs.pages.Pages.turn.Goals as goal

pub returns-then-not-is_known-clause-gathered : goal.returns-then-not-is_known-clause-gathered
returns-then-not-is_known-clause-gathered c = λ all es h.
    let dark : is_known c.args.shown ≡ false = search rules in
    let ended = c.in_ok-end_part.ensures.gathered all (parts_in false es) (turned_dark c.args.self.now c.args.shown es all dark h) in
    rw (c.end_part.ensures.at, dark)
    (went_dark c.end_part.new.self _ c.in_ok-end_part.ensures.closed dark refl refl refl all [] _ (parts_in false es) ended)

pub returns-clause-gathered : goal.returns-clause-gathered
returns-clause-gathered c = λ all es h.
    let lit : is_known c.args.shown ≡ true = search rules in
    turned_lit c.args.self.now _ c.args.shown es lit refl refl refl refl refl
    (λ e. rw e at c.begin-self.ensures) (λ e. rw e at c.begin-self.ensures) all h
