use Rattle.std.proofs.Common.{◌≡◌, ◌<◌, drop}
use Rattle.std.specs.Prelude.{fold}
use Rattle.vap_check.specs.Trees.{next_tree}
use Rattle.vap_check.proofs.kinds.tree_of.Given as goal

abbrev pub invariant-loop-letter : goal.invariant-loop-letter
invariant-loop-letter l = (fold next_tree l.tree (drop l.letter-index l.letter-items) ≡ fold next_tree 0 l.letter-items) × (l.tree < 1024)
