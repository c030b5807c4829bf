use Rattle.std.proofs.Common.{◌≡◌, length, map}
use Rattle.vap_ast.specs.Tree.{constant_of, array_of}
use Rattle.vap_parse.specs.Input.{many}
use Rattle.vap_parse.specs.Descent.{declaration}
use Rattle.vap_parse.specs.Kinds.{declares}
use Rattle.vap_parse.proofs.declaration.declarations.Given as goal

-- what is left of the rounds completes the list
abbrev pub invariant-loop-alloc : goal.invariant-loop-alloc
invariant-loop-alloc l = many declares declaration (map constant_of l.fn.consts.items, map array_of l.fn.arrays.items) l.fn.tokens ≡ many declares
    declaration (map constant_of l.consts.items, map array_of l.arrays.items) l.tokens

abbrev pub decreases-loop-alloc : goal.decreases-loop-alloc
decreases-loop-alloc l = length l.tokens.rest
