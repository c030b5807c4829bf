use Rattle.std.proofs.Common.{◌<◌, length, map, arith, rules}
use Rattle.std.proofs.lemmas.Grind.{common_steps}
use Rattle.vap_ast.specs.Tree.{array_of}
use Rattle.vap_parse.specs.Input.{where_kind, line_of, no_limit, as_many}
use Rattle.vap_parse.specs.Descent.{next_array}
use Rattle.vap_parse.specs.declared.kind.Kind.TheVariants as k
use Rattle.vap_parse.proofs.TextLaws.{array_law}
use Rattle.vap_parse.proofs.Shrinks.{arrays_once, token_takes, takes}
use Rattle.vap_parse.proofs.declaration.more_arrays.Goals as goal

pub loop-alloc-preserved : goal.loop-alloc-preserved
unfolding next_array
loop-alloc-preserved c =
    let once = arrays_once (map array_of c.loop-alloc.arrays.items) c.loop-alloc.tokens in
    first_of (search rules, grind (arith, common_steps))

pub returns : goal.returns
unfolding next_array
returns c =
    let once = arrays_once (map array_of c.loop-alloc.arrays.items) c.loop-alloc.tokens in
    first_of (search rules, grind (arith, common_steps))

pub returns-in_err-expect : goal.returns-in_err-expect
unfolding next_array
returns-in_err-expect c =
    let once = arrays_once (map array_of c.loop-alloc.arrays.items) c.loop-alloc.tokens in
    first_of (search rules, grind (arith, common_steps))

pub returns-in_err-next : goal.returns-in_err-next
unfolding next_array
returns-in_err-next c =
    let once = arrays_once (map array_of c.loop-alloc.arrays.items) c.loop-alloc.tokens in
    first_of (search rules, grind (arith, common_steps))

pub loop-alloc-smaller : goal.loop-alloc-smaller
loop-alloc-smaller c =
    let one : length c.expect.new.self.rest < length c.loop-alloc.tokens.rest =
    token_takes (where_kind k.Comma line_of) no_limit as_many c.loop-alloc.tokens c.expect.new.self c.in_ok-expect.field-0 c.in_ok-expect.ensures in
    let two = takes array_law c.expect.new.self c.array.new.tokens (array_of c.in_ok-next.next) c.in_ok-next.ensures in
    omega arith
