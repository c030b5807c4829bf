use Rattle.std.proofs.Common.{◌≡◌, ◌∙◌, map, Ok, true, arith, rules, sym}
use Rattle.std.proofs.lemmas.Grind.{common_steps}
use Rattle.vap_ast.specs.Tree.{item_of}
use Rattle.vap_parse.specs.Descent.{one_more, else_branch, other_branch}
use Rattle.vap_parse.specs.Input.{kind, expect}
use Rattle.vap_parse.specs.Kinds.{same_kind}
use Rattle.vap_parse.specs.declared.kind.Kind.TheVariants as k
use Rattle.vap_parse.proofs.TextLaws.{semis_law}
use Rattle.vap_parse.proofs.Shrinks.{keeps, items_once, item_takes, inside_is}
use Rattle.vap_parse.proofs.statement.+statement.Goals as goal

pub items-returns-in_err-item : goal.items-returns-in_err-item
unfolding one_more
items-returns-in_err-item t c =
    let once = items_once c.args.ifs (map item_of c.loop-alloc.items.items) c.loop-alloc.tokens in
    first_of (search rules, grind (arith, common_steps))

pub items-returns-in_err-semis : goal.items-returns-in_err-semis
unfolding one_more
items-returns-in_err-semis t c =
    let once = items_once c.args.ifs (map item_of c.loop-alloc.items.items) c.loop-alloc.tokens in
    first_of (search rules, grind (arith, common_steps))

pub items-loop-alloc-preserved : goal.items-loop-alloc-preserved
unfolding one_more
items-loop-alloc-preserved t c =
    let once = items_once c.args.ifs (map item_of c.loop-alloc.items.items) c.loop-alloc.tokens in
    first_of (search rules, grind (arith, common_steps))

pub items-returns : goal.items-returns
items-returns t c =
    let once = items_once c.args.ifs (map item_of c.loop-alloc.items.items) c.loop-alloc.tokens in
    first_of (search rules, grind (arith, common_steps))

pub items-loop-alloc-smaller : goal.items-loop-alloc-smaller
items-loop-alloc-smaller t c =
    let one = item_takes c.args.ifs c.loop-alloc.tokens c.item.new.tokens (item_of c.in_ok-item.item) c.in_ok-item.ensures in
    let two = keeps semis_law c.item.new.tokens c.semis.new.tokens c.in_ok-semis.field-0 c.in_ok-semis.ensures in
    omega arith

pub else_branch-returns : goal.else_branch-returns
unfolding else_branch other_branch
else_branch-returns t c =
    let deeper = inside_is c.args.ifs c.requires in
    let else : same_kind (kind c.args.tokens.now) k.Else ≡ true = sym c.sees.ensures ∙ c.if-not-sees.false in
    let one : expect k.Else c.args.tokens.now ≡ Ok (c.in_ok-expect.field-0, c.expect.new.self) = c.in_ok-expect.ensures in
    rw (else, one, deeper) c.block.ensures
