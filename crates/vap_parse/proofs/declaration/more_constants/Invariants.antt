use Rattle.std.proofs.Common.{◌≡◌, length, map}
use Rattle.vap_ast.specs.Tree.{constant_of}
use Rattle.vap_parse.specs.Input.{many}
use Rattle.vap_parse.specs.Descent.{is, next_constant}
use Rattle.vap_parse.specs.declared.kind.Kind.TheVariants as k
use Rattle.vap_parse.proofs.declaration.more_constants.Given as goal

-- what is left of the rounds completes the list
abbrev pub invariant-loop-alloc : goal.invariant-loop-alloc
invariant-loop-alloc l = many (is k.Comma) next_constant (map constant_of l.fn.consts.items) l.fn.tokens ≡ many (is k.Comma) next_constant
    (map constant_of l.consts.items) l.tokens

abbrev pub decreases-loop-alloc : goal.decreases-loop-alloc
decreases-loop-alloc l = length l.tokens.rest
