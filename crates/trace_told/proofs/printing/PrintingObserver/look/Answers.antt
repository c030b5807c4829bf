use Rattle.trace_told.proofs.Printed.{printed_more}
use Rattle.trace_told.proofs.printing.PrintingObserver.look.Goals as goal

pub returns : goal.returns
returns g c = λ begun past h. (
  h.0,
  h.1,
  h.2,
  h.3,
  h.4,
  printed_more c.args.self.now.checked.now begun.checked.now c.args.self.now.traces.now begun.traces.now c.args.self.now.second begun.second
      c.of-sight.result _ past h.2 h.3 h.4 c.of-sight.ensures h.5 c.put_seen.ensures,
)
