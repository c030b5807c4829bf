use Rattle.std.proofs.Common.{◌≡◌, ◌+◌, ◌*◌, length, map}
use Rattle.vap_ast.specs.Tree.{item_of}
use Rattle.vap_parse.specs.Input.{many}
use Rattle.vap_parse.specs.Descent.{items, inside, one_more}
use Rattle.vap_parse.specs.Kinds.{begins}
use Rattle.vap_parse.proofs.statement.+statement.Given as goal

abbrev pub decreases-else_branch : goal.decreases-else_branch
decreases-else_branch l = 8 * l.ifs

abbrev pub decreases-branch : goal.decreases-branch
decreases-branch l = 8 * l.ifs + 1

abbrev pub decreases-item : goal.decreases-item
decreases-item l = 8 * l.ifs + 2

abbrev pub decreases-items : goal.decreases-items
decreases-items l = 8 * l.ifs + 3

abbrev pub decreases-block : goal.decreases-block
decreases-block l = 8 * l.ifs + 4

abbrev pub invariant-items-loop-alloc : goal.invariant-items-loop-alloc
invariant-items-loop-alloc l = items l.ifs (inside l.ifs) l.fn.tokens ≡ many begins (one_more l.ifs (inside l.ifs)) (map item_of l.items.items) l.tokens

abbrev pub decreases-items-loop-alloc : goal.decreases-items-loop-alloc
decreases-items-loop-alloc l = length l.tokens.rest
