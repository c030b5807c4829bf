use Rattle.std.proofs.Common.{◌≡◌, ◌++◌, drop, map}
use Rattle.std.specs.List.{flat_map}
use Rattle.vap_ast.specs.Tree.{routine_of}
use Rattle.trace_told.specs.Statements.{routine_traces}
use Rattle.trace_told.proofs.statements.add_subs.Given as goal

abbrev pub invariant-loop-sub : goal.invariant-loop-sub
invariant-loop-sub l =
    l.traces.items ++ flat_map routine_traces (map routine_of (drop l.sub-index l.subs))
    ≡ l.fn.traces.items ++ flat_map routine_traces (map routine_of l.subs)
