use Rattle.std.proofs.Common.{◌≡◌, drop}
use Rattle.vap_ast.specs.Tree.{items_of}
use Rattle.vap_check.specs.Names.{items_timers}
use Rattle.vap_check.specs.KeptNames.{declared_in, with_all}
use Rattle.vap_check.specs.declared.kinds.Declared.TheVariants as what
use Rattle.vap_check.proofs.gather.+timers.Given as goal

abbrev pub invariant-note_items_timers-loop-item : goal.invariant-note_items_timers-loop-item
invariant-note_items_timers-loop-item l =
    with_all what.Timer (declared_in l.known) (items_timers (items_of (drop l.item-index l.items))) ≡ with_all what.Timer (declared_in l.fn.known)
    (items_timers (items_of l.items))
