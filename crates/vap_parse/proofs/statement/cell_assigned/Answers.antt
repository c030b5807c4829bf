use Rattle.std.proofs.Common.{◌≡◌, Ok, arith, refl, rules}
use Rattle.std.proofs.lemmas.Grind.{common_steps}
use Rattle.vap_ast.specs.Tree.{expr_of}
use Rattle.vap_parse.specs.Input.{input, expect, max_operators, max_levels}
use Rattle.vap_parse.specs.Descent.{cell_assigned, index, inner, expr}
use Rattle.vap_parse.specs.declared.kind.Kind.TheVariants as k
use Rattle.vap_parse.specs.declared.kind.Rank.TheVariants as rank
use Rattle.vap_parse.proofs.statement.cell_assigned.Goals as goal

pub returns-in_err-value : goal.returns-in_err-value
unfolding cell_assigned
returns-in_err-value c =
    let start : c.count_anew.new.self ≡ input c.args.tokens.now.rest max_operators = c.count_anew.ensures in
    let one : index max_levels (inner max_levels) c.count_anew.new.self ≡ Ok (expr_of c.in_ok-index.index, c.index.new.tokens) = c.in_ok-index.ensures in
    let two : expect k.Assign c.index.new.tokens ≡ Ok (c.in_ok-expect.field-0, c.expect.new.self) = c.in_ok-expect.ensures in
    rw (← start, one, two) (first_of (search rules, grind (arith, common_steps)))

pub returns : goal.returns
unfolding cell_assigned
returns c =
    let start : c.count_anew.new.self ≡ input c.args.tokens.now.rest max_operators = c.count_anew.ensures in
    let one : index max_levels (inner max_levels) c.count_anew.new.self ≡ Ok (expr_of c.in_ok-index.index, c.index.new.tokens) = c.in_ok-index.ensures in
    let two : expect k.Assign c.index.new.tokens ≡ Ok (c.in_ok-expect.field-0, c.expect.new.self) = c.in_ok-expect.ensures in
    let three : expr max_levels rank.Or c.expect.new.self ≡ Ok (expr_of c.in_ok-value.value, c.of_rank.new.tokens) = c.in_ok-value.ensures in
    rw (← start, one, two, three, c.cell_step.ensures) refl
