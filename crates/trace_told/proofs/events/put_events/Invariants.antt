use Rattle.std.proofs.Common.{◌≡◌, ◌≤◌, ◌++◌, List, ℕ, drop}
use Rattle.sig_io.specs.Draft.{Puts}
use Rattle.vap_ast.specs.Tree.{program_of}
use Rattle.trace_told.specs.Became.{none_answered}
use Rattle.trace_told.specs.Listing.{events_from}
use Rattle.trace_told.proofs.events.put_events.Given as goal

abbrev pub invariant-loop-k : goal.invariant-loop-k
invariant-loop-k g l =
    (text : List ℕ) × Puts g.O.Sink.taken g.O.Sink.faults l.fn.draft l.draft l.fn.out l.out text
    × (text ++ events_from l.plan (program_of l.checked.tree) l.rec l.done (drop l.k l.events)
    ≡ events_from l.plan (program_of l.checked.tree) l.rec none_answered l.events)
    × (l.done.refused ≤ l.k)
