use Rattle.std.proofs.Common.{◌≡◌, length, map}
use Rattle.vap_ast.specs.Tree.{array_of}
use Rattle.vap_parse.specs.Input.{many}
use Rattle.vap_parse.specs.Descent.{is, next_array}
use Rattle.vap_parse.specs.declared.kind.Kind.TheVariants as k
use Rattle.vap_parse.proofs.declaration.more_arrays.Given as goal

-- what is left of the rounds completes the list
abbrev pub invariant-loop-alloc : goal.invariant-loop-alloc
invariant-loop-alloc l = many (is k.Comma) next_array (map array_of l.fn.arrays.items) l.fn.tokens ≡ many (is k.Comma) next_array
    (map array_of l.arrays.items) l.tokens

abbrev pub decreases-loop-alloc : goal.decreases-loop-alloc
decreases-loop-alloc l = length l.tokens.rest
