use Rattle.std.proofs.Common.{◌≡◌, ◌++◌, take, drop, map}
use Rattle.sig_types.specs.Pass.{counted}
use Rattle.vap_vm.proofs.slots.count_on.Given as goal

abbrev pub invariant-loop-t : goal.invariant-loop-t
invariant-loop-t l = l.timers.items ≡ map counted (take l.t l.fn.timers.items) ++ drop l.t l.fn.timers.items
