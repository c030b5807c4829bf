use Rattle.std.proofs.Common.{map, refl}
use Rattle.trace_told.specs.Traces.{trace_in}
use Rattle.trace_told.proofs.Traced.{one_more}
use Rattle.trace_told.proofs.traces.traces_at.Goals as goal

pub loop-k-preserved : goal.loop-k-preserved
loop-k-preserved c =
    one_more c.args.checked.now.names c.args.columns.now c.args.tokens.now c.args.brackets.now c.loop-k.k c.args.marks.now
    (map trace_in c.loop-k.traces.items) (map trace_in c.add_trace.new.traces.items) _ _ _ _ c.loop-k-test.true refl
    c.brackets_at-found.ensures c.in_ok-add_trace.ensures c.loop-k.invariant
