use Rattle.std.proofs.Common.{◌≡◌, replicate}
use Rattle.vap_code.specs.Stores.{stopped}
use Rattle.vap_vm.proofs.slots.stopped_timers.Given as goal

abbrev pub invariant-loop-t : goal.invariant-loop-t
invariant-loop-t l = l.timers.items ≡ replicate l._t stopped
