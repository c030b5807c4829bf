use Rattle.std.proofs.Common.{map, arith, rules}
use Rattle.std.proofs.lemmas.Grind.{common_steps}
use Rattle.vap_ast.specs.Tree.{routine_of}
use Rattle.vap_parse.specs.Descent.{next_sub}
use Rattle.vap_parse.proofs.TextLaws.{sub_law}
use Rattle.vap_parse.proofs.Shrinks.{subs_once, takes}
use Rattle.vap_parse.proofs.program.subs.Goals as goal

pub loop-alloc-preserved : goal.loop-alloc-preserved
unfolding next_sub
loop-alloc-preserved c =
    let once = subs_once (map routine_of c.loop-alloc.subs.items) c.loop-alloc.tokens in
    first_of (search rules, grind (arith, common_steps))

pub returns : goal.returns
unfolding next_sub
returns c =
    let once = subs_once (map routine_of c.loop-alloc.subs.items) c.loop-alloc.tokens in
    first_of (search rules, grind (arith, common_steps))

pub returns-in_err-next : goal.returns-in_err-next
unfolding next_sub
returns-in_err-next c =
    let once = subs_once (map routine_of c.loop-alloc.subs.items) c.loop-alloc.tokens in
    first_of (search rules, grind (arith, common_steps))

pub loop-alloc-smaller : goal.loop-alloc-smaller
loop-alloc-smaller c = takes sub_law c.loop-alloc.tokens c.sub.new.tokens (routine_of c.in_ok-next.next) c.in_ok-next.ensures
