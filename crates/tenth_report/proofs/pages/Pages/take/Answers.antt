use Rattle.std.proofs.Common.{◌∷◌, arith}
use Rattle.tenth_records.specs.Parts.{is_known, parts_in, parts_of, pictures_from}
use Rattle.tenth_report.specs.Pages.{Fits}
use Rattle.tenth_report.proofs.Paging.{taken_next, turned_at}
use Rattle.tenth_report.proofs.pages.Pages.take.Goals as goal

pub turn-requires-clause-few : goal.turn-requires-clause-few
turn-requires-clause-few c =
    let room = c.requires.room in
    let fits : Fits c.go_on.new.self room.begin = c.go_on.ensures.fits room.begin room.fits room.begun room.week in
    omega (arith, fits.span, fits.week)

pub turn-requires-clause-inside : goal.turn-requires-clause-inside
turn-requires-clause-inside c =
    let room = c.requires.room in
    let fits : Fits c.go_on.new.self room.begin = c.go_on.ensures.fits room.begin room.fits room.begun room.week in
    fits.inside

pub returns-in-Ok-clause-taken : goal.returns-in-Ok-clause-taken
returns-in-Ok-clause-taken c = λ all rest h.
    let e = c.args.entry in
    let g = c.args.self.now in
    c.in-Ok.ensures.gathered (parts_of all) rest
    (turned_at c.go_on.new.self (parts_of all) e.at g.shown e.shown rest c.go_on.ensures.at c.go_on.ensures.shown
    (c.go_on.ensures.gathered (parts_of all) (pictures_from e.at e.shown rest) (parts_in (is_known g.shown) (e ∷ rest)) (taken_next g all e rest h)))
