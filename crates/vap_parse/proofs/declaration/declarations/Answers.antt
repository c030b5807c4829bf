use Rattle.std.proofs.Common.{map, arith, rules}
use Rattle.std.proofs.lemmas.Grind.{common_steps}
use Rattle.vap_ast.specs.Tree.{constant_of, array_of}
use Rattle.vap_parse.proofs.TextLaws.{declaration_law}
use Rattle.vap_parse.proofs.Shrinks.{declarations_once, takes}
use Rattle.vap_parse.proofs.declaration.declarations.Goals as goal

pub loop-alloc-preserved : goal.loop-alloc-preserved
loop-alloc-preserved c =
    let once = declarations_once (map constant_of c.loop-alloc.consts.items, map array_of c.loop-alloc.arrays.items) c.loop-alloc.tokens in
    first_of (search rules, grind (arith, common_steps))

pub returns : goal.returns
returns c =
    let once = declarations_once (map constant_of c.loop-alloc.consts.items, map array_of c.loop-alloc.arrays.items) c.loop-alloc.tokens in
    first_of (search rules, grind (arith, common_steps))

pub returns-in_err-declaration : goal.returns-in_err-declaration
returns-in_err-declaration c =
    let once = declarations_once (map constant_of c.loop-alloc.consts.items, map array_of c.loop-alloc.arrays.items) c.loop-alloc.tokens in
    first_of (search rules, grind (arith, common_steps))

pub loop-alloc-smaller : goal.loop-alloc-smaller
loop-alloc-smaller c =
    takes (declaration_law (map constant_of c.loop-alloc.consts.items, map array_of c.loop-alloc.arrays.items)) c.loop-alloc.tokens
    c.declaration.new.tokens (map constant_of c.declaration.new.consts.items, map array_of c.declaration.new.arrays.items) c.in_ok-declaration.ensures
