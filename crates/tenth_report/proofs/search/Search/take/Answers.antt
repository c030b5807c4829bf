use Rattle.std.proofs.Common.{◌∷◌}
use Rattle.tenth_records.specs.Parts.{is_known, parts_in, parts_of, pictures_from, unknown_in}
use Rattle.tenth_report.specs.Search.{rules_in}
use Rattle.tenth_report.proofs.Searching.{taken_next, turned_at}
use Rattle.tenth_report.proofs.search.Search.take.Goals as goal

pub returns-in-Ok-clause-taken : goal.returns-in-Ok-clause-taken
returns-in-Ok-clause-taken c = λ all rest h.
    let e = c.args.entry in
    let s = c.args.self.now in
    c.in-Ok.ensures.found (parts_of all) (unknown_in all) rest
    (turned_at (rules_in c.args.limits.now) c.go_on.new.self (parts_of all) (unknown_in all) e.at s.shown e.shown rest c.in_ok-go_on.ensures.at
    c.go_on.ensures.shown
    (c.in_ok-go_on.ensures.found (parts_of all) (unknown_in all) (pictures_from e.at e.shown rest) (parts_in (is_known s.shown) (e ∷ rest)) (unknown_in (e ∷ rest))
    (taken_next (rules_in c.args.limits.now) s all e rest h)))
