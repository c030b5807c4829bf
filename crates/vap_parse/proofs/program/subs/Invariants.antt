use Rattle.std.proofs.Common.{◌≡◌, [], length, map}
use Rattle.vap_ast.specs.Tree.{routine_of}
use Rattle.vap_parse.specs.Input.{many}
use Rattle.vap_parse.specs.Descent.{is, next_sub}
use Rattle.vap_parse.specs.declared.kind.Kind.TheVariants as k
use Rattle.vap_parse.proofs.program.subs.Given as goal

abbrev pub invariant-loop-alloc : goal.invariant-loop-alloc
invariant-loop-alloc l = many (is k.Subroutine) next_sub [] l.fn.tokens ≡ many (is k.Subroutine) next_sub (map routine_of l.subs.items) l.tokens

abbrev pub decreases-loop-alloc : goal.decreases-loop-alloc
decreases-loop-alloc l = length l.tokens.rest
