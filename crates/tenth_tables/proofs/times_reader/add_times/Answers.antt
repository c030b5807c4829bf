use Rattle.std.proofs.Common.{rules, ◌≡◌, ◌<◌, None, true, false, length, get_or, arith}
use Rattle.std.proofs.lemmas.Result.{err_from_is_err_and}
use Rattle.std.specs.Prelude.{is_some}
use Rattle.sig_types.proofs.Options.{none_of}
use Rattle.csv.specs.Records.{fields_of}
use Rattle.sig_tables.proofs.Places.{empties_filled}
use Rattle.tenth_tables.proofs.TimesLists.{reason_form, reason_twice, reason_none, held_listed, held_more}
use Rattle.tenth_tables.proofs.times_reader.add_times.Goals as goal

pub returns-in_err-group-clause-refused : goal.returns-in_err-group-clause-refused
returns-in_err-group-clause-refused c =
    let p = err_from_is_err_and c.from_residual.result c.from_residual.ensures.1 in
    rw (p.1, p.2) (λ rows holds. reason_form c.args.plan.now c.args.fields rows (fields_of c.args.row.now) c.in_err-group.field-0.0 c.in_err-group.ensures.refused)

pub returns-then-is_some-clause-refused : goal.returns-then-is_some-clause-refused
returns-then-is_some-clause-refused c = λ rows holds.
    let held : is_some (get_or c.args.held.now c.in_ok-group.group.0 None) ≡ true = search rules in
    reason_twice c.args.plan.now c.args.fields rows (fields_of c.args.row.now) c.in_ok-group.group.0 c.in_ok-group.ensures.accepted c.in_ok-group.ensures.group
    (held_listed c.args.plan.now rows c.args.held.now c.in_ok-group.group.0 holds c.in_ok-group.ensures.inside true held)

pub returns-clause-accepted : goal.returns-clause-accepted
returns-clause-accepted c = λ rows holds.
    let held : is_some (get_or c.args.held.now c.in_ok-group.group.0 None) ≡ false = search rules in
    reason_none c.args.plan.now c.args.fields rows (fields_of c.args.row.now) c.in_ok-group.group.0 c.in_ok-group.ensures.accepted c.in_ok-group.ensures.group
    (held_listed c.args.plan.now rows c.args.held.now c.in_ok-group.group.0 holds c.in_ok-group.ensures.inside false held)

pub returns-clause-held : goal.returns-clause-held
returns-clause-held c = λ rows holds.
    let held : is_some (get_or c.args.held.now c.in_ok-group.group.0 None) ≡ false = search rules in
    held_more c.args.plan.now rows c.args.held.now (fields_of c.args.row.now) c.in_ok-group.group.0 c.in_ok-group.times holds c.in_ok-group.ensures.inside
    c.in_ok-group.ensures.group held c.in_ok-group.ensures.times c.in_ok-group.ensures.range

pub returns-clause-fills : goal.returns-clause-fills
returns-clause-fills c =
    let held : is_some (get_or c.args.held.now c.in_ok-group.group.0 None) ≡ false = search rules in
    let inside : c.in_ok-group.group.0 < length c.args.held.now = omega (arith, c.in_ok-group.ensures.inside, c.requires.groups) in
    empties_filled c.args.held.now c.in_ok-group.group.0 c.in_ok-group.times inside (none_of _ held)
