use Rattle.std.proofs.Common.{rules, ◌≡◌, ◌+◌, ◌*◌, None, true, false, get_or, arith}
use Rattle.std.specs.Prelude.{is_some, ◌==◌}
use Rattle.std.proofs.lemmas.Result.{err_from_is_err_and}
use Rattle.csv.specs.Records.{fields_of}
use Rattle.tenth_tables.proofs.PairLists.{reason_form, reason_twice, reason_self, reason_none, held_listed}
use Rattle.tenth_tables.proofs.intergreens_reader.judge_entry.Goals as goal

pub returns-in_err-entry-clause-refused : goal.returns-in_err-entry-clause-refused
returns-in_err-entry-clause-refused c =
    let p = err_from_is_err_and c.from_residual.result c.from_residual.ensures.1 in
    rw (p.1, p.2) (λ rows pairs holds. reason_form c.args.plan.now rows (fields_of c.args.row.now) c.in_err-entry.field-0.0 c.in_err-entry.ensures.refused)

pub returns-then-is_some-clause-refused : goal.returns-then-is_some-clause-refused
returns-then-is_some-clause-refused c = λ rows pairs holds.
    let entry = c.in_ok-entry in
    let held : is_some (get_or c.args.cells.now (64 * entry.entry.from.0 + entry.entry.to.0) None) ≡ true = search rules in
    reason_twice c.args.plan.now rows (fields_of c.args.row.now) entry.entry.from.0 entry.entry.to.0 entry.ensures.accepted entry.ensures.pair
    (held_listed c.args.plan.now rows c.args.cells.now pairs entry.entry.from.0 entry.entry.to.0 holds (omega (arith, entry.ensures.from, c.requires.at_most)) (omega (arith, entry.ensures.to, c.requires.at_most)) true held)

pub returns-then-eq-clause-refused : goal.returns-then-eq-clause-refused
returns-then-eq-clause-refused c = λ rows pairs holds.
    let entry = c.in_ok-entry in
    let held : is_some (get_or c.args.cells.now (64 * entry.entry.from.0 + entry.entry.to.0) None) ≡ false = search rules in
    let self : (entry.entry.from.0 == entry.entry.to.0) ≡ true = search rules in
    reason_self c.args.plan.now rows (fields_of c.args.row.now) entry.entry.from.0 entry.entry.to.0 entry.ensures.accepted entry.ensures.pair
    (held_listed c.args.plan.now rows c.args.cells.now pairs entry.entry.from.0 entry.entry.to.0 holds (omega (arith, entry.ensures.from, c.requires.at_most)) (omega (arith, entry.ensures.to, c.requires.at_most)) false held) self

pub returns-clause-accepted : goal.returns-clause-accepted
returns-clause-accepted c = λ rows pairs holds.
    let entry = c.in_ok-entry in
    let held : is_some (get_or c.args.cells.now (64 * entry.entry.from.0 + entry.entry.to.0) None) ≡ false = search rules in
    let self : (entry.entry.from.0 == entry.entry.to.0) ≡ false = search rules in
    reason_none c.args.plan.now rows (fields_of c.args.row.now) entry.entry.from.0 entry.entry.to.0 entry.ensures.accepted entry.ensures.pair
    (held_listed c.args.plan.now rows c.args.cells.now pairs entry.entry.from.0 entry.entry.to.0 holds (omega (arith, entry.ensures.from, c.requires.at_most)) (omega (arith, entry.ensures.to, c.requires.at_most)) false held) self
