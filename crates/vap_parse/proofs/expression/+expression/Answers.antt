use Rattle.std.proofs.Common.{◌≡◌, ◌-◌, ◌<◌, ◌∙◌, length, map, Ok, true, refl, sym, arith, rules}
use Rattle.std.proofs.lemmas.Grind.{common_steps}
use Rattle.vap_ast.specs.Tree.{expr_of}
use Rattle.vap_parse.specs.Input.{kind, name, reading, no_limit, as_many, where_kind, line_of, limit, below}
use Rattle.vap_parse.specs.Kinds.{same_kind, kind_of, operator_of}
use Rattle.vap_parse.specs.Descent.{inner, operation, next_argument, disjunction, conjunction, sum, product, name_or_cell, cell_of, arguments, a_reading}
use Rattle.vap_parse.specs.declared.kind.Kind.TheVariants as k
use Rattle.vap_parse.specs.declared.kind.Rank.TheVariants as rank
use Rattle.vap_parse.proofs.ExprLaws.{expr_law}
use Rattle.vap_parse.proofs.Shrinks.{token_takes, takes, chain_once, arguments_once, inner_is}
use Rattle.vap_parse.proofs.expression.+expression.Goals as goal

pub chain-returns-in_err-op : goal.chain-returns-in_err-op
unfolding operation
chain-returns-in_err-op t c =
    let once = chain_once c.args.levels c.args.rank c.args.operand c.requires (expr_of c.loop-alloc.left) c.loop-alloc.tokens in
    first_of (search rules, grind (arith, common_steps))

pub chain-returns-in_err-right : goal.chain-returns-in_err-right
unfolding operation
chain-returns-in_err-right t c =
    let once = chain_once c.args.levels c.args.rank c.args.operand c.requires (expr_of c.loop-alloc.left) c.loop-alloc.tokens in
    first_of (search rules, grind (arith, common_steps))

pub chain-loop-alloc-preserved : goal.chain-loop-alloc-preserved
unfolding operation
chain-loop-alloc-preserved t c =
    let once = chain_once c.args.levels c.args.rank c.args.operand c.requires (expr_of c.loop-alloc.left) c.loop-alloc.tokens in
    first_of (search rules, grind (arith, common_steps))

pub chain-returns : goal.chain-returns
chain-returns t c =
    let once = chain_once c.args.levels c.args.rank c.args.operand c.requires (expr_of c.loop-alloc.left) c.loop-alloc.tokens in
    first_of (search rules, grind (arith, common_steps))

pub chain-loop-alloc-smaller : goal.chain-loop-alloc-smaller
chain-loop-alloc-smaller t c =
    let one : length c.operator.new.self.rest < length c.loop-alloc.tokens.rest =
    token_takes (λ t. operator_of c.args.rank (kind_of t.kind)) (λ n t. limit n) below c.loop-alloc.tokens c.operator.new.self c.in_ok-op.op
    c.in_ok-op.ensures in
    let two = takes (expr_law c.args.levels c.args.operand) c.operator.new.self c.of_rank-in-loop-alloc.new.tokens (expr_of c.in_ok-right.right)
    c.in_ok-right.ensures in
    omega arith

pub some_arguments-returns-in_err-expect : goal.some_arguments-returns-in_err-expect
unfolding next_argument
some_arguments-returns-in_err-expect t c =
    let once = arguments_once c.args.levels (map expr_of c.loop-alloc.args.items) c.loop-alloc.tokens in
    first_of (search rules, grind (arith, common_steps))

pub some_arguments-returns-in_err-next : goal.some_arguments-returns-in_err-next
unfolding next_argument
some_arguments-returns-in_err-next t c =
    let once = arguments_once c.args.levels (map expr_of c.loop-alloc.args.items) c.loop-alloc.tokens in
    let deeper = inner_is c.args.levels c.requires in
    first_of (search rules, grind (arith, common_steps))

pub some_arguments-loop-alloc-preserved : goal.some_arguments-loop-alloc-preserved
unfolding next_argument
some_arguments-loop-alloc-preserved t c =
    let once = arguments_once c.args.levels (map expr_of c.loop-alloc.args.items) c.loop-alloc.tokens in
    let deeper = inner_is c.args.levels c.requires in
    first_of (search rules, grind (arith, common_steps))

pub some_arguments-returns : goal.some_arguments-returns
some_arguments-returns t c =
    let once = arguments_once c.args.levels (map expr_of c.loop-alloc.args.items) c.loop-alloc.tokens in
    first_of (search rules, grind (arith, common_steps))

pub some_arguments-loop-alloc-smaller : goal.some_arguments-loop-alloc-smaller
some_arguments-loop-alloc-smaller t c =
    let one : length c.expect.new.self.rest < length c.loop-alloc.tokens.rest =
    token_takes (where_kind k.Comma line_of) no_limit as_many c.loop-alloc.tokens c.expect.new.self c.in_ok-expect.field-0 c.in_ok-expect.ensures in
    let two = takes (expr_law (c.args.levels - 1) rank.Or) c.expect.new.self c.of_rank-in-loop-alloc.new.tokens (expr_of c.in_ok-next.next)
    c.in_ok-next.ensures in
    omega arith

pub of_rank-returns-in-Or : goal.of_rank-returns-in-Or
unfolding disjunction
of_rank-returns-in-Or t c = let e : c.args.rank ≡ rank.Or = c.in-Or.is in rw e c.chain.ensures

pub of_rank-returns-in-And : goal.of_rank-returns-in-And
unfolding conjunction
of_rank-returns-in-And t c = let e : c.args.rank ≡ rank.And = c.in-And.is in rw e c.chain-in-And.ensures

pub of_rank-returns-in-Not : goal.of_rank-returns-in-Not
of_rank-returns-in-Not t c = let e : c.args.rank ≡ rank.Not = c.in-Not.is in rw e c.negation.ensures

pub of_rank-returns-in-Compare : goal.of_rank-returns-in-Compare
of_rank-returns-in-Compare t c = let e : c.args.rank ≡ rank.Compare = c.in-Compare.is in rw e c.comparison.ensures

pub of_rank-returns-in-Sum : goal.of_rank-returns-in-Sum
unfolding sum
of_rank-returns-in-Sum t c = let e : c.args.rank ≡ rank.Sum = c.in-Sum.is in rw e c.chain-in-Sum.ensures

pub of_rank-returns-in-Product : goal.of_rank-returns-in-Product
unfolding product
of_rank-returns-in-Product t c = let e : c.args.rank ≡ rank.Product = c.in-Product.is in rw e c.chain-in-Product.ensures

pub of_rank-returns-in-Sign : goal.of_rank-returns-in-Sign
of_rank-returns-in-Sign t c = let e : c.args.rank ≡ rank.Sign = c.in-Sign.is in rw e c.minus.ensures

pub of_rank-returns-in-Atom : goal.of_rank-returns-in-Atom
of_rank-returns-in-Atom t c = let e : c.args.rank ≡ rank.Atom = c.in-Atom.is in rw e c.atom.ensures

pub name_or_cell-returns-in_err-index : goal.name_or_cell-returns-in_err-index
unfolding name_or_cell cell_of
name_or_cell-returns-in_err-index t c =
    let one : name c.args.tokens.now ≡ Ok ((c.in_ok-name.name, c.in_ok-name.field-0-1), c.name.new.self) = c.in_ok-name.ensures in
    let two : same_kind (kind c.name.new.self) k.OpenIndex ≡ true = sym c.sees.ensures ∙ c.if-sees.true in
    rw (one, two) (first_of (search rules, grind (arith, common_steps)))

pub name_or_cell-returns-in_ok-cell : goal.name_or_cell-returns-in_ok-cell
unfolding name_or_cell cell_of
name_or_cell-returns-in_ok-cell t c =
    let one : name c.args.tokens.now ≡ Ok ((c.in_ok-name.name, c.in_ok-name.field-0-1), c.name.new.self) = c.in_ok-name.ensures in
    let two : same_kind (kind c.name.new.self) k.OpenIndex ≡ true = sym c.sees.ensures ∙ c.if-sees.true in
    rw (one, two) (first_of (search rules, grind (arith, common_steps)))

pub reading-returns-in_err-args : goal.reading-returns-in_err-args
unfolding a_reading
reading-returns-in_err-args t c =
    let one : reading c.args.tokens.now ≡ Ok (c.in_ok-kind.kind, c.reading.new.self) = c.in_ok-kind.ensures in
    rw one (first_of (search rules, grind (arith, common_steps)))

pub reading-returns : goal.reading-returns
unfolding a_reading
reading-returns t c =
    let one : reading c.args.tokens.now ≡ Ok (c.in_ok-kind.kind, c.reading.new.self) = c.in_ok-kind.ensures in
    let two : arguments c.args.levels (inner c.args.levels) c.reading.new.self ≡ Ok (map expr_of c.in_ok-args.args.items, c.arguments.new.tokens) =
    c.in_ok-args.ensures in
    rw (one, two, c.read.ensures) refl
