use Rattle.std.proofs.Common.{◌+◌, ◌*◌, ◌≤◌, ◌++◌, ℕ, List, Option, take}
use Rattle.std.specs.List.{flat_map}
use Rattle.sig_io.specs.Draft.{Puts}
use Rattle.signal_log.specs.Log.{fault_name}
use Rattle.signal_log.specs.Summary.{tally, kinds, kept_faults}
use Rattle.signal_log.proofs.summary.put_kinds.Given as goal

abbrev pub invariant-loop-kind : goal.invariant-loop-kind
invariant-loop-kind g l = Puts g.O.Sink.taken g.O.Sink.faults l.fn.draft l.draft l.fn.sink l.sink (flat_map (λ kind. tally (fault_name kind) (kept_faults l.fn.summary kind)) (take l.kind-index kinds))
