use Rattle.std.proofs.Common.{◌≡◌, drop}
use Rattle.vap_ast.specs.Tree.{items_of}
use Rattle.program_check.specs.Loops.{items_jump}
use Rattle.program_check.proofs.loops.+jumps.Given as goal

abbrev pub invariant-items_jump-loop-item : goal.invariant-items_jump-loop-item
invariant-items_jump-loop-item l = items_jump (items_of (drop l.item-index l.items)) ≡ items_jump (items_of l.items)
