use Rattle.std.proofs.Common.{◌≡◌, length}
use Rattle.vap_parse.specs.Input.{many}
use Rattle.vap_parse.specs.Descent.{is, next_value}
use Rattle.vap_parse.specs.declared.kind.Kind.TheVariants as k
use Rattle.vap_parse.proofs.declaration.more_values.Given as goal

-- what is left of the rounds completes the list
abbrev pub invariant-loop-tokens : goal.invariant-loop-tokens
invariant-loop-tokens l = many (is k.Comma) next_value l.fn.values.items l.fn.tokens ≡ many (is k.Comma) next_value l.values.items l.tokens

abbrev pub decreases-loop-tokens : goal.decreases-loop-tokens
decreases-loop-tokens l = length l.tokens.rest
