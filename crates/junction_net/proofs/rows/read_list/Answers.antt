use Rattle.std.proofs.Common.{◌≡◌, ◌∙◌, ℕ, ◌+◌, ◌<◌, length, map, ap, sym, arith, Some, vec_len}
use Rattle.std.proofs.lemmas.Bool.{eqb-true, eqb-false}
use Rattle.std.proofs.lemmas.List.{length-map}
use Rattle.junction_net.specs.declared.rows.ListWhy.TheVariants.{Row, Limit}
use Rattle.sig_types.specs.Text.{fed_lines}
use Rattle.junction_net.specs.Rows.{words_in}
use Rattle.junction_net.proofs.Cuts.{no_lines}
use Rattle.junction_net.proofs.Reading.{begins, limit_at, row_at, reads_more, map_more, accepted, empty_at}
use Rattle.junction_net.proofs.rows.read_list.Goals as goal

pub loop-rest-init : goal.loop-rest-init
loop-rest-init c = rw c.new-rows.ensures.items (begins (fed_lines c.args.text.now))

pub returns-then-len-eq-MOST_JUNCTIONS-clause-refused :
    goal.returns-then-len-eq-MOST_JUNCTIONS-clause-refused
returns-then-len-eq-MOST_JUNCTIONS-clause-refused c =
    let rows = c.loop-rest.rows.items in
    let size : length (map words_in rows) ≡ c.len.result = omega (arith, length-map rows words_in) in
    limit_at c.args.text.now c.loop-rest.rest.now (map words_in rows) c.first_line.result.0.now (fed_lines c.first_line.result.1.now)
    c.loop-rest.invariant c.first_line.ensures.lines (omega (arith, size))
    ∙ ap (λ (k : ℕ). Some (k + 1, Limit)) size

pub returns-in_default-clause-refused : goal.returns-in_default-clause-refused
returns-in_default-clause-refused c =
    let rows = c.loop-rest.rows.items in
    let size : length (map words_in rows) ≡ c.len.result = omega (arith, length-map rows words_in) in
    let few : length (map words_in rows) < 16 = omega (arith, length-map rows words_in) in
    row_at c.args.text.now c.loop-rest.rest.now (map words_in rows) c.first_line.result.0.now (fed_lines c.first_line.result.1.now)
    c.loop-rest.invariant c.first_line.ensures.lines few c.in_default.ensures.names
    ∙ ap (λ (k : ℕ). Some (k + 1, Row)) size

pub loop-rest-preserved : goal.loop-rest-preserved
loop-rest-preserved c =
    let rows = c.loop-rest.rows.items in
    let few : length (map words_in rows) < 16 = omega (arith, length-map rows words_in) in
    rw (c.in_ok-push.ensures.items, map_more words_in rows c.in_ok-own_names.field-0)
    (reads_more (fed_lines c.args.text.now) (fed_lines c.loop-rest.rest.now) (map words_in rows) c.first_line.result.0.now (fed_lines c.first_line.result.1.now)
    (words_in c.in_ok-own_names.field-0) c.loop-rest.invariant c.first_line.ensures.lines few
    (c.in-Some.ensures.names ∙ ap Some (sym c.in_ok-own_names.ensures)))

pub returns-then-is_empty-clause-refused : goal.returns-then-is_empty-clause-refused
returns-then-is_empty-clause-refused c =
    let rows = c.loop-rest.rows.items in
    let read = rw (no_lines c.loop-rest.rest.now c.loop-rest-test.ensures) at c.loop-rest.invariant in
    let zero : vec_len c.loop-rest.rows ≡ 0 = eqb-true (vec_len c.loop-rest.rows) 0 (sym c.if-is_empty.ensures) in
    let none : length (map words_in rows) ≡ 0 = omega (arith, zero, length-map rows words_in) in
    empty_at c.args.text.now (map words_in rows) read none

pub returns-clause-list : goal.returns-clause-list
returns-clause-list c =
    let rows = c.loop-rest.rows.items in
    let read = rw (no_lines c.loop-rest.rest.now c.loop-rest-test.ensures) at c.loop-rest.invariant in
    let some : vec_len c.loop-rest.rows ≡ 0 → ⊥ = eqb-false (vec_len c.loop-rest.rows) 0 (sym c.if-is_empty.ensures) in
    accepted c.args.text.now (map words_in rows) read (omega (arith, some, length-map rows words_in))
