use Rattle.std.proofs.Common.{◌++◌, [], ℕ, List, map, refl}
use Rattle.log_compare.specs.Sides.{side_in, sides_text}
use Rattle.report_seen.specs.CompareForm.{asked_in}
use Rattle.report_seen.specs.Told.{beginning_text}
use Rattle.report_seen.proofs.telling.write_told.Goals as goal

pub returns-in-Ok-clause-written : goal.returns-in-Ok-clause-written
returns-in-Ok-clause-written g c =
    let start = g.O.Sink.taken c.args.out.now in
    let begin : List ℕ = beginning_text (asked_in c.args.form.now) c.args.names.now c.args.others.now c.args.difference in
    c.in-Ok.ensures.ok start (begin ++ sides_text (map side_in c.args.sides.now))
    (c.put_sides.ensures.text start begin (c.put_beginning.ensures.text start [] (c.new-draft.ensures.text start)))

pub returns-in-Err-clause-written : goal.returns-in-Err-clause-written
returns-in-Err-clause-written g c =
    let start = g.O.Sink.taken c.args.out.now in
    let begin : List ℕ = beginning_text (asked_in c.args.form.now) c.args.names.now c.args.others.now c.args.difference in
    let cut = c.in-Err.ensures.fault start (begin ++ sides_text (map side_in c.args.sides.now))
    (c.put_sides.ensures.text start begin (c.put_beginning.ensures.text start [] (c.new-draft.ensures.text start))) in
    (refl, (cut.n, cut.cut))
