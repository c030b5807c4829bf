use Rattle.std.proofs.Common.{◌+◌, ◌*◌, ◌≤◌, ◌++◌, ℕ, List, Option, take}
use Rattle.sig_io.specs.Draft.{Puts}
use Rattle.signal_log.specs.Summary.{groups_text, kept_greens}
use Rattle.signal_log.proofs.summary.put_groups.Given as goal

abbrev pub invariant-loop-g : goal.invariant-loop-g
invariant-loop-g g l = Puts g.O.Sink.taken g.O.Sink.faults l.fn.draft l.draft l.fn.sink l.sink (groups_text (kept_greens l.fn.summary) 0 (take l.g l.plan.names))
