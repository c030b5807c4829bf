use Rattle.std.proofs.Common.{◌≡◌, drop}
use Rattle.vap_ast.specs.Tree.{items_of}
use Rattle.program_check.specs.Stages.{items_labelled}
use Rattle.program_check.proofs.stages.+labels.Given as goal

abbrev pub invariant-items_labelled-loop-item : goal.invariant-items_labelled-loop-item
invariant-items_labelled-loop-item l = items_labelled (items_of (drop l.item-index l.items)) ≡ items_labelled (items_of l.items)
