use Rattle.std.proofs.Common.{◌≡◌, length}
use Rattle.vap_parse.specs.Input.{many}
use Rattle.vap_parse.specs.Descent.{semis, one_semi, is}
use Rattle.vap_parse.specs.declared.kind.Kind.TheVariants as k
use Rattle.vap_parse.proofs.statement.semis.Given as goal

abbrev pub invariant-loop-tokens : goal.invariant-loop-tokens
invariant-loop-tokens l = semis l.fn.tokens ≡ many (is k.Semi) one_semi tt l.tokens

abbrev pub decreases-loop-tokens : goal.decreases-loop-tokens
decreases-loop-tokens l = length l.tokens.rest
