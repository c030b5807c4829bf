use Rattle.std.proofs.Common.{◌≡◌, ℕ, ◌+◌, ◌*◌, length, map}
use Rattle.vap_ast.specs.Tree.{expr_of}
use Rattle.vap_parse.specs.Input.{many}
use Rattle.vap_parse.specs.Descent.{expr, inner, is, is_operator, operation, chain, some_arguments, next_argument}
use Rattle.vap_parse.specs.declared.kind.Kind.TheVariants as k
use Rattle.vap_parse.specs.declared.kind.Rank.{Rank}
use Rattle.vap_parse.specs.declared.kind.Rank.TheVariants as rank
use Rattle.vap_parse.proofs.expression.+expression.Given as goal

abbrev height : Rank → ℕ
height rank.Or = 24
height rank.And = 22
height rank.Not = 20
height rank.Compare = 18
height rank.Sum = 16
height rank.Product = 14
height rank.Sign = 12
height rank.Atom = 10

abbrev pub decreases-index : goal.decreases-index
decreases-index l = 30 * l.levels

abbrev pub decreases-brackets : goal.decreases-brackets
decreases-brackets l = 30 * l.levels

abbrev pub decreases-some_arguments : goal.decreases-some_arguments
decreases-some_arguments l = 30 * l.levels

abbrev pub decreases-arguments : goal.decreases-arguments
decreases-arguments l = 30 * l.levels + 1

abbrev pub decreases-current_state : goal.decreases-current_state
decreases-current_state l = 30 * l.levels

abbrev pub decreases-reading : goal.decreases-reading
decreases-reading l = 30 * l.levels + 2

abbrev pub decreases-name_or_cell : goal.decreases-name_or_cell
decreases-name_or_cell l = 30 * l.levels + 1

abbrev pub decreases-atom : goal.decreases-atom
decreases-atom l = 30 * l.levels + 3

abbrev pub decreases-minus : goal.decreases-minus
decreases-minus l = 30 * l.levels + 4

abbrev pub decreases-chain : goal.decreases-chain
decreases-chain l = 30 * l.levels + height l.operand + 1

abbrev pub decreases-comparison : goal.decreases-comparison
decreases-comparison l = 30 * l.levels + 17

abbrev pub decreases-negation : goal.decreases-negation
decreases-negation l = 30 * l.levels + 19

abbrev pub decreases-of_rank : goal.decreases-of_rank
decreases-of_rank l = 30 * l.levels + height l.rank

-- what is left of the rounds completes the chain
abbrev pub invariant-chain-loop-alloc : goal.invariant-chain-loop-alloc
invariant-chain-loop-alloc l = chain l.rank (expr l.levels l.operand) l.fn.tokens ≡ many (is_operator l.rank)
    (operation l.rank (expr l.levels l.operand)) (expr_of l.left) l.tokens

abbrev pub decreases-chain-loop-alloc : goal.decreases-chain-loop-alloc
decreases-chain-loop-alloc l = length l.tokens.rest

abbrev pub invariant-some_arguments-loop-alloc : goal.invariant-some_arguments-loop-alloc
invariant-some_arguments-loop-alloc l = some_arguments l.levels (inner l.levels) l.fn.tokens ≡ many (is k.Comma)
    (next_argument l.levels (inner l.levels)) (map expr_of l.args.items) l.tokens

abbrev pub decreases-some_arguments-loop-alloc : goal.decreases-some_arguments-loop-alloc
decreases-some_arguments-loop-alloc l = length l.tokens.rest
